use Rattle.std.proofs.Common.{◌≡◌, drop}
use Rattle.blz_value.specs.FirstPlace.{first_place}
use Rattle.topo_forms.specs.Kept.{view_kept}
use Rattle.topo_forms.specs.Validity.OfView.{seals_in_cycle}
use Rattle.topo_types.proofs.validity.of_view.first_sealed.Given as goal

abbrev pub invariant-loop-number : goal.invariant-loop-number
invariant-loop-number l =
    first_place (λ i told. seals_in_cycle (view_kept l.kept) i) l.number (drop l.number l.cycles) ≡ first_place (λ i told. seals_in_cycle (view_kept l.kept) i) 0 l.cycles
