use Rattle.std.proofs.Common.{◌≡◌, drop}
use Rattle.blz_value.specs.Arrows.{with_all}
use Rattle.blz_value.proofs.sets.union_of.Given as goal

abbrev pub invariant-loop-set : goal.invariant-loop-set
invariant-loop-set l = with_all l.all (drop l.set-index l.sets) ≡ with_all 0 l.sets
