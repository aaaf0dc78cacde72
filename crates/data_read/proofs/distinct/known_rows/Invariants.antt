use Rattle.std.proofs.Common.{◌≡◌}
use Rattle.topo_forms.specs.Messages.{distinct_rows}
use Rattle.data_read.proofs.distinct.known_rows.Given as goal

abbrev pub invariant-loop-row : goal.invariant-loop-row
invariant-loop-row l = l.known.keys ≡ distinct_rows l.yielded
