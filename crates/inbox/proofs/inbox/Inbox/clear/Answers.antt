use Rattle.std.proofs.Common.{refl}
use Rattle.inbox.proofs.Keeping.Fresh.{has_cleared}
use Rattle.inbox.proofs.inbox.Inbox.clear.Goals as goal

pub returns-clause-heard : goal.returns-clause-heard
returns-clause-heard c = λ i records other batches s. has_cleared i other records batches c.args.self.now _ s refl c.clear.ensures c.clear-2.ensures.log c.clear-2.ensures.places c.clear-2.ensures.held
