use Rattle.std.proofs.Common.{◌≡◌, ◌+◌, drop}
use Rattle.blz_value.specs.FirstPlace.{first_place}
use Rattle.topo_forms.specs.Kept.{view_kept}
use Rattle.topo_forms.specs.Validity.OfView.{is_mismatched}
use Rattle.topo_types.proofs.validity.of_view.first_mismatched.Given as goal

abbrev pub invariant-loop-number : goal.invariant-loop-number
invariant-loop-number l =
    first_place (λ i s. is_mismatched (view_kept l.kept) (l.sources + i)) l.number (drop l.number l.streams) ≡ first_place (λ i s. is_mismatched (view_kept l.kept) (l.sources + i)) 0 l.streams
