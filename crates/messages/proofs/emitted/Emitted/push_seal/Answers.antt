use Rattle.messages.proofs.SubjectLemmas.{seal_pushed}
use Rattle.messages.proofs.emitted.Emitted.push_seal.Goals as goal

pub returns-clause-ok : goal.returns-clause-ok
returns-clause-ok c = seal_pushed c.self.inside.counts.entries c.insert.new.self.entries c.args.self.now c.args.key c.args.count c.self.view_is c.requires c.in_ok-insert.ensures.entries
