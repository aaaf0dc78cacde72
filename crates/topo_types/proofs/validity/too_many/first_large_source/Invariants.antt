use Rattle.std.proofs.Common.{◌≡◌, ◌≤◌, [], length, take, drop}
use Rattle.blz_value.specs.FirstPlace.{first_place}
use Rattle.topo_forms.specs.Sites.{attributes_in}
use Rattle.topo_forms.specs.Validity.TooMany.{large_source}
use Rattle.topo_types.proofs.validity.too_many.first_large_source.Given as goal

abbrev pub invariant-loop-number : goal.invariant-loop-number
invariant-loop-number l =
    (first_place (large_source l.sources) l.number (drop l.number l.sources) ≡ first_place (large_source l.sources) 0 l.sources)
    × (l.names ≡ attributes_in (take l.number l.sources) [])
    × (length l.names ≤ 64)
    × (l.number ≤ 64)
