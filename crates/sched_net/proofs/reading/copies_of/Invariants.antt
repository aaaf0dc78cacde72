-- the rows so far
use Rattle.std.proofs.Common.{◌≡◌, take}
use Rattle.blz_set.specs.References.{shown}
use Rattle.sched_net.proofs.reading.copies_of.Given as goal

abbrev pub invariant-loop-row : goal.invariant-loop-row
invariant-loop-row l = l.rows.items ≡ shown (take l.row-index l.refs)
