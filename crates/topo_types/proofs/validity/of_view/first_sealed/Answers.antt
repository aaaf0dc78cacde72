use Rattle.std.proofs.Common.{◌≡◌, ◌+◌, ◌<◌, ◌∙◌, ℕ, Bool, true, false, if◌then◌else◌, Some, List, length, drop, ap, sym}
use Rattle.std.proofs.lemmas.List.{at_drop_more}
use Rattle.blz_value.specs.FirstPlace.{first_place}
use Rattle.topo_forms.specs.Kept.{view_kept}
use Rattle.topo_forms.specs.Validity.OfView.{seals_in_cycle}
use Rattle.topo_types.proofs.validity.of_view.first_sealed.Goals as goal

-- one turn
next_place : (test : ℕ → Bool) (told : List Bool) (n : ℕ) (b : Bool) → n < length told → test n ≡ b
    → first_place (λ i t. test i) n (drop n told) ≡ (if b then Some n else first_place (λ i t. test i) (n + 1) (drop (n + 1) told))
next_place test told n b lt is =
    at_drop_more (first_place (λ i t. test i) n) told n false lt
    ∙ ap (λ (o : Bool). if o then Some n else first_place (λ i t. test i) (n + 1) (drop (n + 1) told)) is

pub returns-then-seals_in_cycle-clause-place : goal.returns-then-seals_in_cycle-clause-place
returns-then-seals_in_cycle-clause-place c =
    sym (next_place (seals_in_cycle (view_kept c.args.kept.now)) c.args.cycles.now c.loop-number.number true c.loop-number-test.true (sym c.seals_in_cycle.ensures ∙ c.if-seals_in_cycle.true))
    ∙ c.loop-number.invariant

pub loop-number-preserved : goal.loop-number-preserved
loop-number-preserved c =
    sym (next_place (seals_in_cycle (view_kept c.args.kept.now)) c.args.cycles.now c.loop-number.number false c.loop-number-test.true (sym c.seals_in_cycle.ensures ∙ c.if-seals_in_cycle.false))
    ∙ c.loop-number.invariant
