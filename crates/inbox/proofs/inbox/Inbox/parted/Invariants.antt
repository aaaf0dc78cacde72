-- the entries so far, at carrying ports and at others
use Rattle.std.proofs.Common.{◌≡◌, not, filter, take}
use Rattle.messages.specs.Whole.{feeds_view}
use Rattle.messages.specs.Feeds.{carries_in}
use Rattle.inbox.proofs.inbox.Inbox.parted.Given as goal

abbrev pub invariant-loop-entry : goal.invariant-loop-entry
invariant-loop-entry l = record {
  together : l.together.items ≡ filter (λ entry. carries_in (feeds_view l.self.feeds) entry.0) (take l.entry-index l.entries);
  alone : l.alone.items ≡ filter (λ entry. not (carries_in (feeds_view l.self.feeds) entry.0)) (take l.entry-index l.entries);
}
