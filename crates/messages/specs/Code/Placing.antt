-- What the ids of some lists tell of a pool, where their records were placed in the order in which they stand there: which records these lists have.
use Rattle.std.specs.Prelude.{◌≡◌, ◌==◌, ◌<◌, ◌≤◌, ◌+◌, ℕ, nat_lt, if◌then◌else◌, Option, None, Some, List, [], length, slice_index_or}
use Rattle.blz_value.specs.Members.{Has}
use Rattle.messages.specs.Lists.{list_at, total}
use Rattle.messages.specs.declared.counts.Tally.{Tally}
use Rattle.messages.specs.declared.message.Message.{Message as IdMessage}
use Rattle.messages.specs.declared.message.Message.TheVariants.{Row, Seal}

-- the message has no id from a number on
abbrev pub IsBelow : ℕ → IdMessage → Type 0
IsBelow count (Row id) = id < count
IsBelow count (Seal key number) = Unit {0}

-- how many records are known behind a message, None of a seal: its record was known, or is the next; else it is too late
abbrev pub known_behind : Option ℕ → (before : ℕ) → Option ℕ
known_behind None before = Some before
known_behind (Some id) before = if nat_lt id before then Some before else (if id == before then Some (id + 1) else None)

-- and behind a list: no id is left out
pub record GoesOn (before : ℕ) (list : List IdMessage) (after : ℕ) : Type 0 where
  pub more : before ≤ after
  pub few : after ≤ before + length list
  pub below : (message : IdMessage) → Has message list → IsBelow after message
  pub met : (id : ℕ) → before ≤ id → id < after → Has (Row id) list

-- some lists have exactly the first so many records
pub record HaveFirst (lists : List (List IdMessage)) (count : ℕ) : Type 0 where
  pub few : count ≤ total lists
  pub below : (place : ℕ) (message : IdMessage) → Has message (list_at lists place) → IsBelow count message
  pub met : (id : ℕ) → id < count → (place : ℕ) × (place < length lists) × Has (Row id) (list_at lists place)

-- the lists from a place on are empty and have no tally, and all before are as they were
pub record AreEmptiedFrom (place : ℕ) (old new : List (List IdMessage)) (tallies now : List (Option Tally)) : Type 0 where
  pub count : length new ≡ length old
  pub many : length now ≡ length tallies
  pub kept : (k : ℕ) → k < place → list_at new k ≡ list_at old k
  pub emptied : (k : ℕ) → place ≤ k → list_at new k ≡ []
  pub tallies_kept : (k : ℕ) → k < place → slice_index_or now k None ≡ slice_index_or tallies k None
  pub tallies_gone : (k : ℕ) → place ≤ k → slice_index_or now k None ≡ None
