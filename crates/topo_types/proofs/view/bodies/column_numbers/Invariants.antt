use Rattle.std.proofs.Common.{◌≡◌, map, take}
use Rattle.topo_forms.specs.Sites.{column_number}
use Rattle.topo_types.proofs.view.bodies.column_numbers.Given as goal

abbrev pub invariant-loop-name : goal.invariant-loop-name
invariant-loop-name l = l.numbers.items ≡ map (column_number l.columns) (take l.name-index l.names)
