use Rattle.std.proofs.Common.{◌≡◌, ◌∙◌, ◌∷◌, ◌++◌, [], List, sym, subst}
use Rattle.std.proofs.lemmas.Map.Iter.{rest_more, rest_all}
use Rattle.blz_value.specs.Record.{Row}
use Rattle.blz_value.specs.Sets.{set_of}
use Rattle.blz_set.proofs.Unions.{handed_on}
use Rattle.bloom_growth.specs.ByKey.{rows_found}
use Rattle.bloom_growth.specs.Code.Sides.{Merges}
use Rattle.bloom_growth.proofs.MergedLemmas.{sorted_rest, comes_on, comes_over, comes_whole}
use Rattle.bloom_growth.proofs.side.Side.merge.Goals as goal

pub loop-key-preserved : goal.loop-key-preserved
loop-key-preserved c =
    let key = c.in-Some.key in
    let set = c.in-Some.set in
    let left = c.loop-key.key-iterator in
    let rest = c.next.new.self in
    let is : left ≡ (key, set) ∷ rest = rest_more (λ (entry : Row × List Row). entry) left rest c.next.result (key, set) c.in-Some.is c.next.ensures.steps in
    let sorted = c.loop-key.invariant.sorted in
    record {
      columns = c.in_ok-add_set.ensures.columns ∙ c.loop-key.invariant.columns;
      sorted = sorted_rest (key, set) rest left is sorted;
      rows = λ own q.
          comes_on key set rest left is sorted c.loop-key.self.sets c.add_set.new.self.sets c.in_ok-add_set.ensures.rows q (set_of (rows_found c.args.self.now.sets q ++ rows_found c.args.more q)) (c.loop-key.invariant.rows own q);
    }

pub returns-in_err-add_set-clause-rows : goal.returns-in_err-add_set-clause-rows
returns-in_err-add_set-clause-rows c = λ own.
    let key = c.in-Some.key in
    let set = c.in-Some.set in
    let left = c.loop-key.key-iterator in
    let rest = c.next.new.self in
    let first = c.args.self.now.sets in
    let new = c.add_set.new.self.sets in
    let is : left ≡ (key, set) ∷ rest = rest_more (λ (entry : Row × List Row). entry) left rest c.next.result (key, set) c.in-Some.is c.next.ensures.steps in
    subst (Merges first c.args.more new) (sym (handed_on _ c.from_residual.result c.in_err-add_set.field-0.0 c.from_residual.ensures.1))
    (comes_over key set rest left is c.loop-key.invariant.sorted first c.loop-key.self.sets c.args.more new new c.in_err-add_set.field-0.0 c.in_err-add_set.ensures.rows (c.loop-key.invariant.rows own))

pub returns-clause-rows : goal.returns-clause-rows
returns-clause-rows c = λ own key.
    let left = c.loop-key.key-iterator in
    let none : left ≡ [] = rest_all (λ (entry : Row × List Row). entry) left c.next.new.self c.next.result c.in-None.is c.next.ensures.steps in
    comes_whole c.loop-key.self.sets left key (set_of (rows_found c.args.self.now.sets key ++ rows_found c.args.more key)) none (c.loop-key.invariant.rows own key)
