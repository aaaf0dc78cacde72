-- A window shows the first open places of a list.
use Rattle.std.specs.Prelude.{◌≡◌, ◌≤◌, ◌⊎◌, ◌==◌, ℕ, Bool, true, false, List, filter, length, take}
use Rattle.std.specs.List.{range_with_len}
use Rattle.blz_value.specs.Members.{Has}
use Rattle.sched_turns.specs.declared.windows.Stale.{Stale}
use Rattle.sched_turns.specs.declared.windows.Stale.TheVariants.{Nothing, Place, Everything}

-- the most places that a window shows
abbrev pub window_size : ℕ
window_size = 8

-- the open places of those below a number
abbrev pub open_below : (is_open : ℕ → Bool) → (count : ℕ) → List ℕ
open_below is_open count = filter is_open (range_with_len 0 count)

-- the first open places of a list of so many
abbrev pub first_open : (is_open : ℕ → Bool) → (count : ℕ) → List ℕ
first_open is_open count = take window_size (open_below is_open count)

-- what a window keeps: open places, and at how many places of the list it looked
pub record Looked : Type 0 where
  pub places : List ℕ
  pub next : ℕ

-- it has those that are open of the places at which it looked, and it is full or looked at all
pub record IsWindow (is_open : ℕ → Bool) (count : ℕ) (window : Looked) : Type 0 where
  pub below : window.places ≡ open_below is_open window.next
  pub inside : window.next ≤ count
  pub few : length window.places ≤ window_size
  pub enough : (length window.places ≡ window_size) ⊎ (window.next ≡ count)

-- of the places at which it looked only those that it has can be open
abbrev pub MayShow : (is_open : ℕ → Bool) → Looked → Type 0
MayShow is_open window = filter is_open window.places ≡ open_below is_open window.next

-- a place is among those that may be stale
abbrev pub may_be_stale : Stale → (place : ℕ) → Bool
may_be_stale Nothing place = false
may_be_stale (Place one) place = place == one
may_be_stale Everything place = true

-- of these places all others are open
abbrev pub OthersAreOpen : (is_open : ℕ → Bool) → Stale → (places : List ℕ) → Type 0
OthersAreOpen is_open stale places = (place : ℕ) → Has place places → may_be_stale stale place ≡ false → is_open place ≡ true
