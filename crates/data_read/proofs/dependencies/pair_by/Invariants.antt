use Rattle.data_read.proofs.PairLemmas.{Stands}
use Rattle.data_read.proofs.dependencies.pair_by.Given as goal

-- no two records so far disagree, and the sets hold the first with their values on each side
abbrev pub invariant-loop-one : goal.invariant-loop-one
invariant-loop-one l = Stands l.sided l.one-index l.from.keys l.to.keys
