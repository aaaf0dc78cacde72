-- What the feeds of an instance know, and what changes when one of them hears a message.
use Rattle.std.specs.Prelude.{◌≡◌, ◌<◌, ℕ, ◌+◌, ◌==◌, ◌&&◌, ◌||◌, Bool, true, false, not, nat_le, if◌then◌else◌, Option, List, length, slice_get, slice_set, slice_index_or}
use Rattle.std.specs.List.{list_any, list_all}
use Rattle.std.specs.Option.{option_map, option_map_or, option_and_then}
use Rattle.blz_value.specs.Record.{Row}
use Rattle.blz_value.specs.Operators.{cells}
use Rattle.blz_value.specs.Message.{is_same_row}
use Rattle.messages.specs.Messages.{Entry}
use Rattle.messages.specs.PartitionCounts.{is_met}
use Rattle.messages.specs.Ports.{PortKey}

-- what came on a feed: its port, whether that carries the key, which ids of records of partitions came, and of each partition how many records, and the least count of its seals
pub record FeedView : Type 0 where
  pub port : ℕ
  pub carries : Bool
  pub known : (id : ℕ) → Bool
  pub have : (key : Row) → ℕ
  pub need : (key : Row) → Option ℕ

-- the ports and the feeds of an instance, and whether some feed is one of a port that carries the key
pub record FeedsView : Type 0 where
  pub ports : List PortKey
  pub feeds : List FeedView
  pub some : Bool

abbrev pub feed_count : FeedsView → ℕ
feed_count f = length f.feeds

abbrev pub port_count : FeedsView → ℕ
port_count f = length f.ports

-- the port of a feed; past the end the number of ports
abbrev pub port_in : FeedsView → (feed : ℕ) → ℕ
port_in f feed = option_map_or (λ x. x.port) (slice_get f.feeds feed) (length f.ports)

abbrev pub carries_in : FeedsView → (port : ℕ) → Bool
carries_in f port = option_map_or (λ p. p.carries) (slice_get f.ports port) false

abbrev pub key_in : FeedsView → Entry → Option Row
key_in f entry = option_map (λ places. cells places entry.1) (option_and_then (λ p. p.places) (slice_get f.ports entry.0))

-- a feed has a seal of the partition, and as many records as it counts
abbrev pub is_enough : FeedView → (key : Row) → Bool
is_enough f key = is_met (f.need key) (f.have key)

abbrev pub is_whole_in : FeedsView → (key : Row) → Bool
is_whole_in f key = f.some && list_all (λ x. not x.carries || is_enough x key) f.feeds

abbrev pub is_due_in : FeedsView → Option Row → Bool
is_due_in f key = option_map_or (is_whole_in f) key true

-- ---- what one feed hears

pub record FeedHearsRow (old new : FeedView) (key : Row) (id : ℕ) : Type 0 where
  pub port : new.port ≡ old.port
  pub carries : new.carries ≡ old.carries
  pub known : (other : ℕ) → new.known other ≡ (id == other || old.known other)
  pub have : (k : Row) → new.have k ≡ (if is_same_row key k && not (old.known id) then old.have k + 1 else old.have k)
  pub need : (k : Row) → new.need k ≡ old.need k

pub record FeedHearsSeal (old new : FeedView) (key : Row) (count : ℕ) : Type 0 where
  pub port : new.port ≡ old.port
  pub carries : new.carries ≡ old.carries
  pub known : (other : ℕ) → new.known other ≡ old.known other
  pub have : (k : Row) → new.have k ≡ old.have k
  pub need : (k : Row) (n : ℕ) → is_met (new.need k) n ≡ (is_met (old.need k) n || (is_same_row key k && nat_le count n))

-- ---- and the feeds by it

-- all but one feed stay as they were
pub record IsOneChanged (old new : FeedsView) (feed : ℕ) (was now : FeedView) : Type 0 where
  pub ports : new.ports ≡ old.ports
  pub some : new.some ≡ old.some
  pub feeds : new.feeds ≡ slice_set old.feeds feed now
  pub first : was ≡ slice_index_or old.feeds feed was

pub record HearsRow (old new : FeedsView) (feed : ℕ) (key : Row) (id : ℕ) : Type 0 where
  pub was : FeedView
  pub now : FeedView
  pub changed : IsOneChanged old new feed was now
  pub hears : FeedHearsRow was now key id

pub record HearsSeal (old new : FeedsView) (feed : ℕ) (key : Row) (count : ℕ) : Type 0 where
  pub was : FeedView
  pub now : FeedView
  pub changed : IsOneChanged old new feed was now
  pub hears : FeedHearsSeal was now key count

-- ---- nothing is heard

-- nothing came on a feed of this port
pub record IsFreshFeed (port : ℕ) (carries : Bool) (f : FeedView) : Type 0 where
  pub port_is : f.port ≡ port
  pub carries_is : f.carries ≡ carries
  pub known : (id : ℕ) → f.known id ≡ false
  pub have : (key : Row) → f.have key ≡ 0
  pub need : (key : Row) (n : ℕ) → is_met (f.need key) n ≡ false

-- a port of these carries the key
abbrev pub carries_at : List PortKey → (port : ℕ) → Bool
carries_at ports port = option_map_or (λ p. p.carries) (slice_get ports port) false

-- nothing came on any of the feeds, of which each has its port
pub record AreFresh (ports : List PortKey) (feed_ports : List ℕ) (feeds : List FeedView) : Type 0 where
  pub count : length feeds ≡ length feed_ports
  pub each : (k : ℕ) (d : FeedView) → k < length feeds → IsFreshFeed (slice_index_or feed_ports k 0) (carries_at ports (slice_index_or feed_ports k 0)) (slice_index_or feeds k d)

pub record IsFresh (ports : List PortKey) (feed_ports : List ℕ) (f : FeedsView) : Type 0 where
  pub ports_are : f.ports ≡ ports
  pub some : f.some ≡ list_any (λ x. x.carries) f.feeds
  pub feeds : AreFresh ports feed_ports f.feeds

-- what came is forgotten
pub record IsCleared (old new : FeedsView) : Type 0 where
  pub ports : new.ports ≡ old.ports
  pub some : new.some ≡ old.some
  pub count : feed_count new ≡ feed_count old
  pub each : (k : ℕ) (d : FeedView) → k < feed_count old → IsFreshFeed (slice_index_or old.feeds k d).port (slice_index_or old.feeds k d).carries (slice_index_or new.feeds k d)
