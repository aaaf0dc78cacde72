-- When the parts of an inbox stand for what was heard.
use Rattle.std.specs.Prelude.{◌≡◌, ◌<◌, ℕ, Bool, true, false, is_some, List, [], map, filter, length, slice_index_or}
use Rattle.std.specs.List.{list_any}
use Rattle.blz_value.specs.Members.{Has}
use Rattle.blz_value.specs.Record.{Row}
use Rattle.blz_value.specs.Sets.{set_of}
use Rattle.bloom_forms.specs.declared.mode.Mode.{Mode}
use Rattle.bloom_forms.specs.declared.mode.Mode.TheVariants.{Free, Pass, Seal, Order}
use Rattle.topo_forms.specs.Messages.{is_same_row}
use Rattle.messages.specs.Messages.{Pair, Entry, is_same_entry, firsts}
use Rattle.inbox.specs.Instances.{Instance, port_of_feed, is_carrying, carrying_feeds, entries_of, key_of_entry, is_of_key}
use Rattle.inbox.specs.Timesteps.{is_seal_within, from_feed, is_some_feed}
use Rattle.blz_pool.specs.Entries.{EntryId, entry_with_id, entries_with_ids, row_with_id}
use Rattle.messages.specs.Log.{AreGiven}
use Rattle.messages.specs.PartitionCounts.{is_met}
use Rattle.messages.specs.Feeds.{FeedView, FeedsView, feed_count}
use Rattle.inbox.specs.Code.Places.{places_of}
use Rattle.inbox.specs.declared.waiting.Waiting.{Waiting}

-- the records of partitions among what was heard from one feed
abbrev pub keyed_rows : Instance → (sent : List Pair) → List Row
keyed_rows i sent = map (λ entry. entry.1) (filter (λ entry. is_some (key_of_entry i entry)) (entries_of i sent))

-- how many distinct records of a partition are among them
abbrev pub count_sent : Instance → (sent : List Pair) → (key : Row) → ℕ
count_sent i sent key = length (set_of (map (λ entry. entry.1) (filter (is_of_key i key) (entries_of i sent))))

-- a feed stands for what was heard from it; the pool gave the ids that are known, and has the records that were heard
pub record FeedHeard (i : Instance) (records : List Row) (feed : ℕ) (sent : List Pair) (f : FeedView) : Type 0 where
  pub port : f.port ≡ port_of_feed i feed
  pub carries : f.carries ≡ is_carrying i (port_of_feed i feed)
  pub given : (id : ℕ) → f.known id ≡ true → id < length records
  pub rows : (r : Row) → Has r (keyed_rows i sent) → Has r records
  pub known : (id : ℕ) → id < length records → f.known id ≡ list_any (is_same_row (row_with_id records id)) (keyed_rows i sent)
  pub have : (key : Row) → f.have key ≡ count_sent i sent key
  pub need : (key : Row) (n : ℕ) → is_met (f.need key) n ≡ list_any (λ pair. is_seal_within key n pair.1) sent

-- the feeds stand for what was heard
pub record FeedsHeard (i : Instance) (records : List Row) (heard : List Pair) (f : FeedsView) : Type 0 where
  pub ports : f.ports ≡ i.ports
  pub count : feed_count f ≡ length i.feeds
  pub some : f.some ≡ is_some_feed (carrying_feeds i)
  pub within : (feed : ℕ) → feed < length i.feeds → port_of_feed i feed < length i.ports
  pub each : (feed : ℕ) (d : FeedView) → feed < feed_count f → FeedHeard i records feed (from_feed feed heard) (slice_index_or f.feeds feed d)

-- the place is that of a record of the partition
abbrev pub is_place_of : Instance → List Row → List EntryId → (key : Row) → (place : ℕ) → Bool
is_place_of i records log key place = is_of_key i key (entry_with_id records (slice_index_or log place (0, 0)))

-- the waiting records stand for what was heard, where these wait
pub record WaitingHeard (i : Instance) (records : List Row) (waits : Entry → Bool) (heard : List Pair) (w : Waiting) : Type 0 where
  pub given : AreGiven records w.log
  pub log : entries_with_ids records w.log ≡ firsts is_same_entry (entries_of i heard)
  pub within : (key : Row) (place : ℕ) → Has place (places_of w.places key) → place < length w.log
  pub placed : (key : Row) (place : ℕ) → Has place (places_of w.places key) → is_place_of i records w.log key place ≡ true
  pub all : (key : Row) (place : ℕ) → place < length w.log → is_place_of i records w.log key place ≡ true → Has place (places_of w.places key)
  pub held : w.held ≡ length (filter waits (entries_with_ids records w.log))

-- the mode is Seal
abbrev pub is_sealing : Mode → Bool
is_sealing Free = false
is_sealing (Pass key) = false
is_sealing (Seal key) = true
is_sealing Order = false

-- nothing is kept where nothing waits
pub record IsIdle (w : Waiting) : Type 0 where
  pub log : w.log ≡ []
  pub held : w.held ≡ 0
