use Rattle.std.proofs.Common.{rules, ◌≡◌, ◌∙◌, ◌++◌, ◌∷◌, [], List, sym, subst}
use Rattle.bloom_forms.specs.declared.module.Kind.TheVariants.{Output}
use Rattle.bloom_eval.specs.declared.puts.Put.{Put}
use Rattle.bloom_eval.specs.Puts.{ArePutOf}
use Rattle.bloom_index.proofs.PuttingOut.{kind_here, put_more, put_none, ids_more}
use Rattle.bloom_index.proofs.by_rows.put_outputs.Goals as goal
use Rattle.bloom_index.proofs.by_rows.put_outputs.Goals.{then-eq+in_ok-push, else-eq}

pub loop-i-preserved : goal.loop-i-preserved
loop-i-preserved c =
    let pool = c.args.pool.now in
    let cs = c.args.collections.now in
    let puts = c.loop-i.puts in
    let i = c.loop-i.i in
    let item = c.index-collections-i.result in
    let lt = c.loop-i-test.true in
    let is = c.index-collections-i.is in
    elim c.if-eq.branch [
      | then-eq+in_ok-push w ↦
          let out : item.kind ≡ Output = search rules in
          let are : c.if-eq.puts ≡ puts ++ w.put_of.result ∷ [] = w.puts-is ∙ w.in_ok-push.ensures in
          record {
            outs = λ sets many each. put_more pool cs sets puts i item lt is many (c.loop-i.invariant.outs sets many each) c.if-eq.puts w.put_of.result out are (w.put_of.ensures.rows ∙ sym (each i (kind_here cs i item Output lt is out)));
            ids = ids_more (c.args.entry.now ∷ []) puts c.if-eq.puts w.put_of.result are c.loop-i.invariant.ids w.put_of.ensures.id;
          }
      | else-eq w ↦
          let other : ¬ (item.kind ≡ Output) = search rules in
          record {
            outs = λ sets many each. put_none pool cs sets puts i item lt is many (c.loop-i.invariant.outs sets many each) c.if-eq.puts other w.puts-is;
            ids = subst (λ (p : List Put). ArePutOf (c.args.entry.now ∷ []) p) (sym w.puts-is) c.loop-i.invariant.ids;
          }
    ]
