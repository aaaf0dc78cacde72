use Rattle.std.proofs.Common.{◌≡◌}
use Rattle.data_read.specs.Broken.{same}
use Rattle.data_read.specs.Code.Earliest.{values_of}
use Rattle.data_read.proofs.SidesLemmas.{values_from}
use Rattle.data_read.proofs.dependencies.sides.are_same.Given as goal

abbrev pub invariant-loop-k : goal.invariant-loop-k
invariant-loop-k l = same (values_from l.one l.k) (values_from l.other l.k) ≡ same (values_of l.one) (values_of l.other)
