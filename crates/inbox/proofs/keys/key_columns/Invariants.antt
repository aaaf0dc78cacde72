-- the places of the attributes so far
use Rattle.std.proofs.Common.{◌≡◌, map, filter}
use Rattle.blz_value.specs.Bits.{bit_of, meets}
use Rattle.topo_forms.specs.Data.{place_of_attribute}
use Rattle.blz_value.specs.NumberSets.{below}
use Rattle.topo_forms.specs.View.{stream_at}
use Rattle.inbox.proofs.keys.key_columns.Given as goal

abbrev pub invariant-loop-attribute : goal.invariant-loop-attribute
invariant-loop-attribute l = l.columns.items ≡ map (place_of_attribute (stream_at l.valid.view l.stream).columns) (filter (λ n. meets (bit_of n) l.key.bits) (below l.attribute))
