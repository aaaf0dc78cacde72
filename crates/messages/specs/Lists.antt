-- Emitted lists are kept side by side, by the ids of their records in one pool.
use Rattle.std.specs.Prelude.{◌≡◌, ◌<◌, ◌≤◌, ℕ, List, [], map, length, slice_index_or, slice_set}
use Rattle.std.specs.List.{All, sum_by}
use Rattle.blz_value.specs.Members.{Has}
use Rattle.blz_value.specs.Record.{Row}
use Rattle.blz_value.specs.Message.{Message, rows_in}
use Rattle.messages.specs.Ids.{message_with_id, IsGiven}
use Rattle.messages.specs.declared.message.Message.{Message as IdMessage}
use Rattle.messages.specs.Emitted.{Continues}

-- the messages of all emitted lists together are at most so many
abbrev pub message_limit : ℕ
message_limit = 262144

-- a pool with its records, and the lists
pub record Listed : Type 0 where
  pub records : List Row
  pub lists : List (List IdMessage)

-- a list, read in the pool
abbrev pub read_list : List Row → List IdMessage → List Message
read_list records list = map (message_with_id records) list

-- all lists, read in the pool
abbrev pub read_lists : Listed → List (List Message)
read_lists l = map (read_list l.records) l.lists

-- one of some lists; past the end the empty list
abbrev pub list_at : {X : Type 0} → List (List X) → (place : ℕ) → List X
list_at lists place = slice_index_or lists place []

-- how many messages some lists have together
abbrev pub total : {X : Type 0} → List (List X) → ℕ
total lists = sum_by length lists

-- the pool gave the ids of all messages
abbrev pub AllAreGiven : Listed → Type 0
AllAreGiven l = All (All (IsGiven l.records)) l.lists

-- the pool has exactly the records of the lists, and no more of them than the lists have messages
pub record IsExact (l : Listed) : Type 0 where
  pub emitted : (r : Row) → Has r l.records → (place : ℕ) × (place < length l.lists) × Has r (rows_in (list_at (read_lists l) place))
  pub few : length l.records ≤ total l.lists

-- the first so many lists stayed, and all others are empty
pub record KeepsFirst (first : ℕ) (old new : List (List Message)) : Type 0 where
  pub count : length new ≡ length old
  pub kept : (place : ℕ) → place < first → list_at new place ≡ list_at old place
  pub emptied : (place : ℕ) → first ≤ place → list_at new place ≡ []

-- the pool only grew, and one list became another, while all others stayed
pub record OneListBecomes (old new : Listed) (place : ℕ) (list : List Message) : Type 0 where
  pub records : Continues old.records new.records
  pub lists : read_lists new ≡ slice_set (read_lists old) place list
