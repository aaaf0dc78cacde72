use Rattle.blz_value.specs.Closure.{within}
use Rattle.blz_value.proofs.Within.{bits-within, within-bits}
use Rattle.blz_value.proofs.attrs.Attrs.is_within.Goals as goal

pub returns-clause-all : goal.returns-clause-all
unfolding within
returns-clause-all c = (bits-within c.args.self.bits c.args.other.bits, within-bits c.args.self.bits c.args.other.bits)
