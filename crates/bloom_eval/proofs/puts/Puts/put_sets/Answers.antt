use Rattle.std.proofs.Common.{◌≡◌, sym, subst, ap, ◌∙◌, List, [], ◌∷◌, ◌++◌, arith}
use Rattle.std.proofs.lemmas.List.{append-nil}
use Rattle.std.proofs.lemmas.Grind.{common_steps}
use Rattle.std.proofs.lemmas.List.Elements.{All-append}
use Rattle.bloom_eval.specs.declared.puts.Put.{Put}
use Rattle.bloom_eval.specs.declared.puts.Put.TheVariants.{Rows}
use Rattle.bloom_eval.specs.Puts.{ArePutOf, IsPutOf, puts_in}
use Rattle.bloom_eval.proofs.PutOut.{put_more, one_put}
use Rattle.bloom_eval.proofs.puts.Puts.put_sets.Goals as goal

pub loop-set-preserved : goal.loop-set-preserved
loop-set-preserved c =
    let puts : List Put = c.loop-set.self in
    let is : c.push.new.self ≡ puts ++ Rows c.in-Some.set ∷ [] = c.in_ok-push.ensures in
    let goes = c.in-Some.ensures.goes in
    let yields : c.loop-set.set-iterator.rest.items ≡ c.in-Some.set ∷ c.next.new.self.rest.items = grind (arith, common_steps) in
    record {
      rows = λ records. ap (λ (p : List Put). puts_in records p ++ c.next.new.self.rest.items) is ∙ put_more records puts c.in-Some.set c.next.new.self.rest.items ∙ ap (λ later. puts_in records puts ++ later) (sym yields) ∙ c.loop-set.invariant.rows records;
      ids = λ entries. subst (λ (p : List Put). ArePutOf entries p) (sym is) (All-append (IsPutOf entries) puts (Rows c.in-Some.set ∷ []) (c.loop-set.invariant.ids entries) (one_put entries c.in-Some.set));
    }

pub returns-clause-rows : goal.returns-clause-rows
returns-clause-rows c = λ records. let none : c.loop-set.set-iterator.rest.items ≡ [] = grind (arith, common_steps) in sym (append-nil (puts_in records c.loop-set.self)) ∙ ap (λ later. puts_in records c.loop-set.self ++ later) (sym none) ∙ c.loop-set.invariant.rows records
