use Rattle.std.proofs.Common.{◌≡◌, take}
use Rattle.topo_types.proofs.view.bodies.number_output.Given as goal

abbrev pub invariant-loop-column : goal.invariant-loop-column
invariant-loop-column l = l.out.items ≡ take l.column-index l.columns
