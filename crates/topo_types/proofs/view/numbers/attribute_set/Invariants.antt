use Rattle.std.proofs.Common.{◌≡◌, map, drop}
use Rattle.blz_value.specs.Bits.{bit_of}
use Rattle.blz_value.specs.Arrows.{with_all}
use Rattle.topo_forms.specs.Sites.{attribute_number}
use Rattle.blz_value.specs.NumberSets.{set_of_numbers}
use Rattle.topo_types.proofs.view.numbers.attribute_set.Given as goal

abbrev pub invariant-loop-column : goal.invariant-loop-column
invariant-loop-column l = with_all l.set.bits (map bit_of (map (attribute_number l.names) (drop l.column-index l.columns))) ≡ set_of_numbers (map (attribute_number l.names) l.columns)
