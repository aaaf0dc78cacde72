-- the feeds before this one are cleared, the others as they were
use Rattle.std.proofs.Common.{◌≡◌, ◌<◌, ◌≤◌, ℕ, length, get_or}
use Rattle.messages.specs.Code.Hearing.{IsEmptyAgain}
use Rattle.messages.specs.declared.feed.Feed.{Feed}
use Rattle.messages.proofs.feeds.clear_feeds.Given as goal

abbrev pub invariant-loop-feed : goal.invariant-loop-feed
invariant-loop-feed l = record {
  count : length l.feeds.items ≡ length l.fn.feeds.items;
  cleared : (k : ℕ) (d : Feed) → k < l.feed → IsEmptyAgain (get_or l.fn.feeds.items k d) (get_or l.feeds.items k d);
  others : (k : ℕ) (d : Feed) → l.feed ≤ k → get_or l.feeds.items k d ≡ get_or l.fn.feeds.items k d;
}
