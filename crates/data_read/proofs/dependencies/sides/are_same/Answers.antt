use Rattle.data_read.proofs.SidesLemmas.{other_length}
use Rattle.data_read.proofs.dependencies.sides.are_same.Goals as goal

pub returns-then-one-other : goal.returns-then-one-other
returns-then-one-other c = other_length c.args.one.now c.args.other.now c.if-one-other.true
