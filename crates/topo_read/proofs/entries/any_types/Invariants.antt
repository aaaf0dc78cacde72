use Rattle.std.proofs.Common.{◌≡◌, take}
use Rattle.topo_read.specs.Entries.{any_types}
use Rattle.topo_read.proofs.entries.any_types.Given as goal

abbrev pub invariant-loop-column : goal.invariant-loop-column
invariant-loop-column l = l.types.items ≡ any_types (take l._column-index l.columns)
