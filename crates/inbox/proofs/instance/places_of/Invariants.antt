-- the places of the attributes so far
use Rattle.std.proofs.Common.{◌≡◌, Some, map, filter}
use Rattle.blz_value.specs.Bits.{bit_of, meets}
use Rattle.topo_forms.specs.Data.{place_of_attribute}
use Rattle.blz_value.specs.NumberSets.{below}
use Rattle.inbox.proofs.instance.places_of.Given as goal

abbrev pub invariant-loop-attribute : goal.invariant-loop-attribute
invariant-loop-attribute l = l.places.items ≡ map (place_of_attribute (map Some l.columns)) (filter (λ n. meets (bit_of n) l.key.bits) (below l.attribute))
