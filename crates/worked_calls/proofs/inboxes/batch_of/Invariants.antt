use Rattle.std.proofs.Common.{◌<◌, All}
use Rattle.inbox.specs.Inbox.{feeds_in}
use Rattle.messages.specs.Ids.{IsGiven}
use Rattle.worked_calls.proofs.inboxes.batch_of.Given as goal

abbrev pub invariant-loop-one : goal.invariant-loop-one
invariant-loop-one l = record {
  feeds : All (λ pair. pair.0 < feeds_in l.inbox) l.batch.items;
  given : All (λ pair. IsGiven l.pool pair.1) l.batch.items;
}
