-- The sets that count in a step don't depend on the order of the heads: the collections hold the same at the end, and the heads are the same.
use Rattle.std.proofs.Common.{ℕ, List, map, subst}
use Rattle.blz_value.specs.Members.{HaveEqualMembers}
use Rattle.blz_value.proofs.Membership.{map_members, append_within}
use Rattle.bloom_forms.specs.Form.{Accepted}
use Rattle.bloom_forms.specs.Heads.{IsOrdered}
use Rattle.bloom_forms.specs.Laws.{with_heads}
use Rattle.bloom_forms.specs.Lookup.{declared}
use Rattle.bloom_forms.specs.Step.{Sets, set_at, rows_named, at_end}
use Rattle.bloom_forms.proofs.Ends.OverTables.{one_end}
use Rattle.bloom_eval.specs.Laws.{CountsSame}
use Rattle.bloom_eval.specs.StepAnswers.{rule_sets, counted_at, counted_sets}

pub counts_same : (a : Accepted) (heads : List ℕ) → IsOrdered a.form.collections a.form.rules a.heads → IsOrdered a.form.collections a.form.rules heads → CountsSame a heads
counts_same a heads first second kept now =
    let end = at_end a kept now in
    let same : HaveEqualMembers a.heads heads = (λ h m. second.all h (first.none_else h m), λ h m. first.all h (second.none_else h m)) in
    let sets = map_members (set_at end) a.heads heads same in
    let rules = rule_sets (declared a.form.collections) (rows_named a.form.collections end) a.form.rules in
    let by_end : HaveEqualMembers (counted_at a end) (counted_at (with_heads a heads) end) = (
      append_within (map (set_at end) a.heads) rules (map (set_at end) heads) rules sets.0 (λ s h. h),
      append_within (map (set_at end) heads) rules (map (set_at end) a.heads) rules sets.1 (λ s h. h),
    ) in
    subst (λ (other : Sets). HaveEqualMembers (counted_sets a kept now) (counted_at (with_heads a heads) other)) (one_end a heads first second kept now) by_end
