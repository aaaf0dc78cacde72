use Rattle.std.proofs.Common.{◌≡◌, ◌≤◌, ◌+◌, drop}
use Rattle.blz_value.specs.FirstPlace.{first_place}
use Rattle.topo_forms.specs.Validity.TooMany.{too_many_stream}
use Rattle.topo_types.proofs.validity.too_many.first_large_stream.Given as goal

abbrev pub invariant-loop-number : goal.invariant-loop-number
invariant-loop-number l =
    (first_place (λ i s. too_many_stream l.sources i) l.number (drop l.number l.streams) ≡ first_place (λ i s. too_many_stream l.sources i) 0 l.streams)
    × (l.sources + l.number ≤ 64)
