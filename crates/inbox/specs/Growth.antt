-- Emitted lists and logs only grow, what is heard was emitted before, and no list repeats a message.
use Rattle.std.specs.Prelude.{◌≡◌, ℕ, ◌≤◌, ◌<◌, Bool, false, List, [], ◌∷◌, length, slice_index_or}
use Rattle.blz_value.specs.Members.{Has}
use Rattle.topo_forms.specs.Data.{Data}
use Rattle.topo_forms.specs.Feeds.{Feed, no_feed}
use Rattle.topo_forms.specs.Messages.{Message, row, seal, is_same_row}
use Rattle.messages.specs.Messages.{Pair, Batch, Entry}
pub use Rattle.messages.specs.Emitted.{Continues}
use Rattle.inbox.specs.Instances.{Instance}
use Rattle.inbox.specs.Wiring.{Wiring, instance_at}
use Rattle.inbox.specs.Lives.{Life, all_lives}
use Rattle.inbox.specs.Executions.{Execution, emitted_list}

-- each emitted list and each log of the second execution begins with that of the first
pub record IsExtendedBy (w : Wiring) (given : Data) (x y : Execution) : Type 0 where
  pub lists : (stream replica : ℕ) → Continues (emitted_list w given x stream replica) (emitted_list w given y stream replica)
  pub logs : (component : ℕ) → Continues (x.logs component) (y.logs component)

-- no replica took more than its log has
abbrev pub TakesWithinLogs : Execution → Type 0
TakesWithinLogs x = (component replica : ℕ) (life : Life) → Has life (all_lives (x.lives component replica)) → life.taken ≤ length (x.logs component)

-- ---- where messages come from

-- the feed of an instance with a number
abbrev pub feed_numbered : Instance → ℕ → Feed
feed_numbered i number = slice_index_or i.feeds number no_feed

-- a pair is of one of the instance's feeds, and its message stands in the emitted list of the feed
pub record ComesFrom (w : Wiring) (given : Data) (x : Execution) (i : Instance) (pair : Pair) : Type 0 where
  pub of_feed : pair.0 < length i.feeds
  pub sent : Has pair.1 (emitted_list w given x (feed_numbered i pair.0).stream (feed_numbered i pair.0).sender)

-- all that instances heard, in any life, does
abbrev pub HearsWhatIsSent : Wiring → Data → Execution → Type 0
HearsWhatIsSent w given x = (component replica : ℕ) (life : Life) (batch : Batch) (pair : Pair)
    → Has life (all_lives (x.lives component replica)) → Has batch life.heard → Has pair batch → ComesFrom w given x (instance_at w component replica) pair

-- an entry is of the port of a feed, and its record stands in the emitted list of the feed
pub record EntryComesFrom (w : Wiring) (given : Data) (x : Execution) (i : Instance) (entry : Entry) : Type 0 where
  pub feed : Feed
  pub of_feed : Has feed i.feeds
  pub port : feed.port ≡ entry.0
  pub sent : Has (row entry.1) (emitted_list w given x feed.stream feed.sender)

-- all that stands in a log does
abbrev pub LogsWhatIsSent : Wiring → Data → Execution → Type 0
LogsWhatIsSent w given x = (component : ℕ) (entry : Entry) → Has entry (x.logs component) → EntryComesFrom w given x (instance_at w component 0) entry

-- all that stands in lives and logs of the second execution stands in emitted lists of the first
pub record WasSentBefore (w : Wiring) (given : Data) (x y : Execution) : Type 0 where
  pub heard : (component replica : ℕ) (life : Life) (batch : Batch) (pair : Pair)
      → Has life (all_lives (y.lives component replica)) → Has batch life.heard → Has pair batch → ComesFrom w given x (instance_at w component replica) pair
  pub logged : (component : ℕ) (entry : Entry) → Has entry (y.logs component) → EntryComesFrom w given x (instance_at w component 0) entry

-- ---- repeats

-- two messages are one record, or seals of one partition
abbrev pub is_repeat_of : Message → Message → Bool
is_repeat_of (row a) (row b) = is_same_row a b
is_repeat_of (row a) (seal k n) = false
is_repeat_of (seal j m) (row b) = false
is_repeat_of (seal j m) (seal k n) = is_same_row j k

-- no message of a list repeats an earlier one
abbrev pub NoRepeats : List Message → Type 0
NoRepeats [] = Unit {0}
NoRepeats (m ∷ ms) = ((q : Message) → Has q ms → is_repeat_of m q ≡ false) × NoRepeats ms
