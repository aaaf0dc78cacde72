use Rattle.inbox.proofs.Keeping.Hears.{held-is}
use Rattle.inbox.proofs.inbox.Inbox.held.Goals as goal

pub returns : goal.returns
returns c = λ i records batches s. held-is i records batches c.args.self.now s
