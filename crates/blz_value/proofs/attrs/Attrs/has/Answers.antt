use Rattle.blz_value.proofs.Members.{has-bit}
use Rattle.blz_value.proofs.attrs.Attrs.has.Goals as goal

pub returns-clause-computed : goal.returns-clause-computed
returns-clause-computed c = has-bit c.args.attr c.args.self.bits c.requires
