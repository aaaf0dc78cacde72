use Rattle.std.proofs.Common.{◌≡◌, map, take}
use Rattle.topo_forms.specs.Data.{place_of_attribute}
use Rattle.data_read.proofs.dependencies.columns.places_of.Given as goal

abbrev pub invariant-loop-attribute : goal.invariant-loop-attribute
invariant-loop-attribute l = l.places.items ≡ map (place_of_attribute l.columns) (take l.attribute-index l.attribute-items)
