-- What an inbox reads off a batch before it hears it, and what changes when it hears it.
use Rattle.std.specs.Prelude.{◌≡◌, ℕ, ◌<◌, ◌-◌, ◌&&◌, ◌||◌, Bool, true, false, not, if◌then◌else◌, Option, Some, None, List, [], ◌∷◌, filter, length, is_some, IfSome}
use Rattle.std.specs.List.{AllZip, list_any, filter_map}
use Rattle.std.specs.Option.{option_map}
use Rattle.blz_value.specs.Record.{Row as Record}
use Rattle.topo_forms.specs.Messages.{Message, row, seal}
use Rattle.inbox.specs.Instances.{Instance, port_of_feed, entry_of, key_of_entry}
use Rattle.messages.specs.Ids.{message_with_id, pair_with_id}
use Rattle.messages.specs.Messages.{Pair, Entry}
use Rattle.blz_pool.specs.Entries.{EntryId, entry_with_id}
use Rattle.messages.specs.Log.{is_same_entry_id}
use Rattle.messages.specs.Whole.{feeds_view, partitions, key_at, KeepNumbers}
use Rattle.messages.specs.Feeds.{FeedsView, port_in, key_in, carries_in, is_whole_in, is_due_in, HearsRow}
use Rattle.inbox.specs.Code.Waiting.{KeepsEntry, released_of}
use Rattle.messages.specs.declared.message.Message.{Message as IdMessage}
use Rattle.messages.specs.declared.message.Message.TheVariants.{Row, Seal}
use Rattle.inbox.specs.declared.set_off.Released.{Released}
use Rattle.inbox.specs.declared.inbox.Touched.{Touched}
use Rattle.inbox.specs.declared.inbox.Inbox.{Inbox}

-- ---- partitions

-- the key value of a message's partition: that of a seal, and of a record where its port has all columns of the key
abbrev pub key_by : FeedsView → (feed : ℕ) → Message → Option Record
key_by f feed (row r) = key_in f (port_in f feed, r)
key_by f feed (seal key count) = Some key

abbrev pub if_open : FeedsView → Option Record → Option Record
if_open f None = None
if_open f (Some key) = if is_whole_in f key then None else Some key

-- the partition of a message, where it isn't whole
abbrev pub open_key : FeedsView → Pair → Option Record
open_key f pair = if_open f (key_by f pair.0 pair.1)

-- ---- what a message touches

-- the number is that of a partition, where there is one
abbrev pub IsNumberIn : (keys : List Record) → Option ℕ → Type 0
IsNumberIn keys number = IfSome number (λ n. n < length keys)

-- the partition with this key value has this number, where there is one
pub record IsNumbered (keys : List Record) (key : Option Record) (number : Option ℕ) : Type 0 where
  pub key_is : key_at keys number ≡ key
  pub within : IsNumberIn keys number

-- what a message of a partition touches: its number, and a record of it waits where it isn't whole
pub record IsTouched (f : FeedsView) (keys : List Record) (key : Option Record) (t : Touched) : Type 0 where
  pub numbered : IsNumbered keys key t.number
  pub waits : t.waits ≡ not (is_due_in f key)

-- the key value of a message by its id
abbrev pub key_of_id : List Record → FeedsView → ℕ × IdMessage → Option Record
key_of_id records f pair = key_by f pair.0 (message_with_id records pair.1)

-- so it is of each message of a batch
abbrev pub AreTouched : List Record → FeedsView → (keys : List Record) → List (ℕ × IdMessage) → List Touched → Type 0
AreTouched records f keys batch touched = AllZip (λ pair t. IsTouched f keys (key_of_id records f pair) t) batch touched

-- an inbox is seen as before, and each partition keeps its number
pub record IsSeenAs (old new : Inbox) : Type 0 where
  pub mode : new.sealing ≡ old.sealing
  pub feeds : feeds_view new.feeds ≡ feeds_view old.feeds
  pub waiting : new.waiting ≡ old.waiting
  pub numbers : KeepNumbers (partitions old.feeds) (partitions new.feeds)

abbrev pub if_whole : FeedsView → Option Record → Option Record
if_whole f None = None
if_whole f (Some key) = if is_whole_in f key then Some key else None

-- the key value of a partition that is touched, where it wasn't whole before and is now
abbrev pub became_key : FeedsView → (keys : List Record) → Touched → Option Record
became_key f keys t = if t.waits then if_whole f (key_at keys t.number) else None

-- ---- records

-- the id of a message, where it has one
abbrev pub id_in : IdMessage → Option ℕ
id_in (Row id) = Some id
id_in (Seal key count) = None

-- the port and the id
abbrev pub entry_id_of : FeedsView → ℕ × IdMessage → Option EntryId
entry_id_of f pair = option_map (λ id. (port_in f pair.0, id)) (id_in pair.1)

-- those of a batch
abbrev pub entry_ids_of : FeedsView → List (ℕ × IdMessage) → List EntryId
entry_ids_of f batch = filter_map (entry_id_of f) batch

-- the record goes with the batch, where it is said whether it waits: outside sealing always, under Seal where it is new and doesn't wait
abbrev pub goes_if : Inbox → (waits : Bool) → EntryId → Bool
goes_if x waits entry = not x.sealing || (not (list_any (is_same_entry_id entry) x.waiting.log) && not waits)

-- so it does by what the feeds say
abbrev pub goes_in : List Record → Inbox → EntryId → Bool
goes_in records x entry = not x.sealing || (not (list_any (is_same_entry_id entry) x.waiting.log) && is_due_in (feeds_view x.feeds) (key_in (feeds_view x.feeds) (entry_with_id records entry)))

-- ---- one message more

-- the feeds hear a record, where it has a key value
abbrev pub HearsIf : (old new : FeedsView) → (feed : ℕ) → Option Record → (id : ℕ) → Type 0
HearsIf old new feed None id = new ≡ old
HearsIf old new feed (Some key) id = HearsRow old new feed key id

-- an inbox hears a record with this key value; whether it waits is said
pub record HearsRecord (old new : Inbox) (feed : ℕ) (key : Option Record) (id : ℕ) (waits : Bool) : Type 0 where
  pub mode : new.sealing ≡ old.sealing
  pub feeds : HearsIf (feeds_view old.feeds) (feeds_view new.feeds) feed key id
  pub kept : old.sealing ≡ true → KeepsEntry old.waiting new.waiting (port_in (feeds_view old.feeds) feed, id) key waits
  pub idle : old.sealing ≡ false → new.waiting ≡ old.waiting

-- ---- which records of a batch wait

-- the key value of a pair's partition
abbrev pub key_of_pair : Instance → ℕ → Message → Option Record
key_of_pair i feed (row r) = key_of_entry i (port_of_feed i feed, r)
key_of_pair i feed (seal key count) = Some key

-- what a pair touches: its partition has this number, and its record waits where it is said
pub record IsHeardAs (i : Instance) (keys : List Record) (waits : Entry → Bool) (pair : Pair) (t : Touched) : Type 0 where
  pub key_is : key_at keys t.number ≡ key_of_pair i pair.0 pair.1
  pub waiting : (entry : Entry) → entry_of i pair ≡ Some entry → waits entry ≡ (is_some (key_of_entry i entry) && t.waits)

-- so it is of each of a batch
abbrev pub AreHeardAs : Instance → List Record → (keys : List Record) → (Entry → Bool) → List (ℕ × IdMessage) → List Touched → Type 0
AreHeardAs i records keys waits batch touched = AllZip (λ pair t. IsHeardAs i keys waits (pair_with_id records pair) t) batch touched

-- ---- what is released

-- entries are parted: those at ports that carry the key, and the others
pub record AreParted (f : FeedsView) (entries : List EntryId) (parts : Released) : Type 0 where
  pub together : parts.together.items ≡ filter (λ entry. carries_in f entry.0) entries
  pub alone : parts.alone.items ≡ filter (λ entry. not (carries_in f entry.0)) entries

-- these entries are released in parts, where some partition becomes whole
abbrev pub AreReleased : FeedsView → (whole : List Record) → List EntryId → Option Released → Type 0
AreReleased f [] entries None = Unit {0}
AreReleased f [] entries (Some parts) = ⊥
AreReleased f (key ∷ keys) entries None = ⊥
AreReleased f (key ∷ keys) entries (Some parts) = AreParted f entries parts

-- the inbox releases the records of these partitions, where there are some
pub record Releases (old new : Inbox) (whole : List Record) (released : Option Released) : Type 0 where
  pub mode : new.sealing ≡ old.sealing
  pub feeds : feeds_view new.feeds ≡ feeds_view old.feeds
  pub log : new.waiting.log ≡ old.waiting.log
  pub places : new.waiting.places ≡ old.waiting.places
  pub held : new.waiting.held ≡ old.waiting.held - length (released_of old.waiting whole)
  pub parts : AreReleased (feeds_view old.feeds) whole (released_of old.waiting whole) released
