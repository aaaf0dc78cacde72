-- What is known of each place, and how a log knows its entries.
use Rattle.std.specs.Prelude.{◌≡◌, ◌==◌, ◌&&◌, ◌||◌, ℕ, Bool, List, [], slice_index_or}
use Rattle.std.specs.List.{list_any}
use Rattle.blz_pool.specs.Entries.{EntryId}
use Rattle.messages.specs.Log.{is_same_entry_id, IsLog}
use Rattle.messages.specs.Numbers.{has_number}

-- a number is known at a place
abbrev pub is_known : (known : List (List ℕ)) → (place number : ℕ) → Bool
is_known known place number = has_number (slice_index_or known place []) number

-- one number more is known at a place
abbrev pub KnowsAlso : (place number : ℕ) → (old new : List (List ℕ)) → Type 0
KnowsAlso place number old new = (n k : ℕ) → is_known new n k ≡ ((n == place && k == number) || is_known old n k)

-- the entries of a log are known by their ports and ids, and nothing else is
abbrev pub Knows : List (List ℕ) → List EntryId → Type 0
Knows known entries = (entry : EntryId) → is_known known entry.0 entry.1 ≡ list_any (is_same_entry_id entry) entries

-- the entries of a log, each known
pub record IsKept (known : List (List ℕ)) (entries : List EntryId) : Type 0 where
  pub once : IsLog entries
  pub knows : Knows known entries
