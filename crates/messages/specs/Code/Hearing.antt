-- Feeds on which nothing came, and what is said of one that hears.
use Rattle.std.specs.Prelude.{◌≡◌, ◌<◌, ◌+◌, ◌==◌, ◌&&◌, ◌||◌, ℕ, Bool, not, nat_le, if◌then◌else◌, List, [], length, slice_set, slice_index_or}
use Rattle.messages.specs.Numbers.{has_number, HasAlso}
use Rattle.messages.specs.PartitionCounts.{have_at, need_at, is_met}
use Rattle.messages.specs.Feeds.{carries_at}
use Rattle.messages.specs.Ports.{PortKey}
use Rattle.messages.specs.declared.feed.Feed.{Feed}

-- nothing came on a feed of this port
pub record IsEmpty (port : ℕ) (carries : Bool) (f : Feed) : Type 0 where
  pub port_is : f.port ≡ port
  pub carries_is : f.carries ≡ carries
  pub known : f.known ≡ []
  pub counts : f.counts.items ≡ []

-- nothing came on feeds, one for each of these ports
pub record AreEmpty (ports : List PortKey) (feed_ports : List ℕ) (feeds : List Feed) : Type 0 where
  pub count : length feeds ≡ length feed_ports
  pub each : (k : ℕ) (d : Feed) → k < length feeds → IsEmpty (slice_index_or feed_ports k 0) (carries_at ports (slice_index_or feed_ports k 0)) (slice_index_or feeds k d)

-- a feed of the same port on which nothing came
abbrev pub IsEmptyAgain : (old new : Feed) → Type 0
IsEmptyAgain old new = IsEmpty old.port old.carries new

-- so is each of some feeds
pub record AreCleared (old new : List Feed) : Type 0 where
  pub count : length new ≡ length old
  pub each : (k : ℕ) (d : Feed) → k < length old → IsEmptyAgain (slice_index_or old k d) (slice_index_or new k d)

-- ---- one feed hears

-- a record of the partition with a number
pub record RowHeard (old new : List Feed) (feed number id : ℕ) : Type 0 where
  pub was : Feed
  pub now : Feed
  pub feeds : new ≡ slice_set old feed now
  pub first : was ≡ slice_index_or old feed was
  pub port : now.port ≡ was.port
  pub carries : now.carries ≡ was.carries
  pub known : HasAlso id was.known now.known
  pub have : (n : ℕ) → have_at now.counts.items n ≡ (if n == number && not (has_number was.known id) then have_at was.counts.items n + 1 else have_at was.counts.items n)
  pub need : (n : ℕ) → need_at now.counts.items n ≡ need_at was.counts.items n

-- a seal of it
pub record SealHeard (old new : List Feed) (feed number count : ℕ) : Type 0 where
  pub was : Feed
  pub now : Feed
  pub feeds : new ≡ slice_set old feed now
  pub first : was ≡ slice_index_or old feed was
  pub port : now.port ≡ was.port
  pub carries : now.carries ≡ was.carries
  pub known : now.known ≡ was.known
  pub have : (n : ℕ) → have_at now.counts.items n ≡ have_at was.counts.items n
  pub need : (n m : ℕ) → is_met (need_at now.counts.items n) m ≡ (is_met (need_at was.counts.items n) m || (n == number && nat_le count m))
