use Rattle.std.proofs.Common.{rules, ◌≡◌, ◌∙◌, ◌++◌, ◌∷◌, [], List, length, ap, sym, subst, arith}
use Rattle.std.proofs.lemmas.List.{length-map}
use Rattle.bloom_forms.specs.declared.module.Kind.TheVariants.{Output}
use Rattle.bloom_forms.specs.Step.{set_at}
use Rattle.bloom_eval.specs.declared.puts.Put.{Put}
use Rattle.bloom_eval.specs.Puts.{ArePutOf}
use Rattle.bloom_eval.proofs.Ending.{later_held}
use Rattle.bloom_parts.specs.declared.change.Change.{Change}
use Rattle.bloom_parts.specs.Turns.{rows_in}
use Rattle.bloom_index.specs.Code.StepSets.{held_sets}
use Rattle.bloom_index.proofs.PuttingOut.{put_more, put_none, ids_more, many_left}
use Rattle.bloom_index.proofs.puts.put_out.Goals as goal
use Rattle.bloom_index.proofs.puts.put_out.Goals.{then-eq+in_ok-put_of+in_ok-push, else-eq}

pub loop-i-preserved : goal.loop-i-preserved
loop-i-preserved c =
    let pool = c.args.pool.now in
    let cs = c.args.collections.now in
    let start = held_sets c.args.held.items in
    let many = length-map c.args.held.items (λ (change : Change). rows_in change.rows) ∙ c.requires.many in
    let puts = c.loop-i.puts in
    let i = c.loop-i.i in
    let item = c.index-collections-i.result in
    let lt = c.loop-i-test.true in
    let is = c.index-collections-i.is in
    elim c.if-eq.branch [
      | then-eq+in_ok-put_of+in_ok-push w ↦
          let out : item.kind ≡ Output = search rules in
          let put = w.in_ok-put_of.field-0 in
          let are : c.if-eq.puts ≡ puts ++ put ∷ [] = w.puts-is ∙ w.in_ok-push.ensures in
          let left = ap (λ (l : List Change). held_sets l) (ap (λ v. v.items) w.held-is) ∙ w.take_rows-rows.ensures.left in
          record {
            many = many_left c.loop-i.held.items c.if-eq.held.items i left ∙ c.loop-i.invariant.many;
            later = later_held (held_sets c.loop-i.held.items) (held_sets c.if-eq.held.items) start i left c.loop-i.invariant.later;
            outs = put_more pool cs start puts i item lt is many c.loop-i.invariant.outs c.if-eq.puts put out are (w.in_ok-put_of.ensures.rows ∙ w.take_rows-rows.ensures.taken ∙ c.loop-i.invariant.later i (omega arith));
            ids = ids_more c.args.entries.now puts c.if-eq.puts put are c.loop-i.invariant.ids w.in_ok-put_of.ensures.id;
          }
      | else-eq w ↦
          let other : ¬ (item.kind ≡ Output) = search rules in
          let held = ap (λ v. v.items) w.held-is in
          record {
            many = ap (λ (l : List Change). length l) held ∙ c.loop-i.invariant.many;
            later = λ k le. ap (λ (l : List Change). set_at (held_sets l) k) held ∙ c.loop-i.invariant.later k (omega (arith, le));
            outs = put_none pool cs start puts i item lt is many c.loop-i.invariant.outs c.if-eq.puts other w.puts-is;
            ids = subst (λ (p : List Put). ArePutOf c.args.entries.now p) (sym w.puts-is) c.loop-i.invariant.ids;
          }
    ]
