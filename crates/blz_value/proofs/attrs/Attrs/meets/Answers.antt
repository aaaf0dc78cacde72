use Rattle.blz_value.specs.Bits.{meets}
use Rattle.blz_value.proofs.Members.{meets-some, some-meets}
use Rattle.blz_value.proofs.attrs.Attrs.meets.Goals as goal

pub returns-clause-some : goal.returns-clause-some
unfolding meets
returns-clause-some c = (meets-some c.args.self.bits c.args.other.bits, λ found. some-meets c.args.self.bits c.args.other.bits found.0 found.1.0 found.1.1)
