use Rattle.std.proofs.Common.{◌≡◌, map}
use Rattle.data_read.specs.Making.{distinct_lists}
use Rattle.data_read.proofs.distinct.all_distinct.Given as goal

abbrev pub invariant-loop-lists : goal.invariant-loop-lists
invariant-loop-lists l = l.distinct.items ≡ map distinct_lists l.yielded
