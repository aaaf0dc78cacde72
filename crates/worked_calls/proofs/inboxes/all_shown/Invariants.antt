use Rattle.std.proofs.Common.{◌≡◌}
use Rattle.inbox.specs.Inbox.{IsFrom, feeds_in}
use Rattle.worked_calls.proofs.inboxes.all_shown.Given as goal

abbrev pub invariant-loop-said : goal.invariant-loop-said
invariant-loop-said l = record {
  feeds : feeds_in l.inbox ≡ 1;
  kept : IsFrom l.pool l.inbox;
}
