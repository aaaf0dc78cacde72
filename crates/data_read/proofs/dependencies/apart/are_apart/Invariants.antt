use Rattle.data_read.proofs.ApartLemmas.{StandApart}
use Rattle.data_read.proofs.dependencies.apart.are_apart.Given as goal

-- no two records so far have the same values, and the set holds these
abbrev pub invariant-loop-one : goal.invariant-loop-one
invariant-loop-one l = StandApart l.sided l.one-index l.values.keys
