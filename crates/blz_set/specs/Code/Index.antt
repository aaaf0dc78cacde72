-- Entries in the order of some columns.
use Rattle.std.specs.Prelude.{◌≡◌, ℕ, Bool, true, false, List}
use Rattle.std.specs.List.{All}
use Rattle.std.specs.List.Sorted.{IsSortedByKey, IsPartitionPoint}
use Rattle.std.specs.Ordering.{is_lt, eq_by_cmp}
use Rattle.blz_value.specs.Record.{Row, record_cmp}
use Rattle.blz_value.specs.Operators.{cells}
use Rattle.blz_value.specs.Groups.{with_key}
use Rattle.blz_set.specs.declared.entry.Entry.{Entry}
use Rattle.blz_set.specs.Code.Entry.{row_of, entry_key}

-- each entry has its row's values in some columns
abbrev pub HaveKeys : List ℕ → List Entry → Type 0
HaveKeys columns entries = All (λ entry. entry_key columns entry ≡ cells columns (row_of entry)) entries

-- no entry is below the one before it, by their rows' values in some columns
abbrev pub InOrder : List ℕ → List Entry → Type 0
InOrder columns entries = IsSortedByKey (λ entry. cells columns (row_of entry)) record_cmp entries

-- whether a row has a key in some columns
abbrev pub has_key : List ℕ → Row → Row → Bool
has_key columns key row = eq_by_cmp record_cmp (cells columns row) key

-- whether a row's values in some columns are below a key
abbrev pub is_below : List ℕ → Row → Row → Bool
is_below columns key row = is_lt (record_cmp (cells columns row) key)

-- the rows before the place are below the key, and those from there on are not
abbrev pub StartsAt : List ℕ → Row → List Entry → ℕ → Type 0
StartsAt columns key entries place = IsPartitionPoint (λ entry. is_below columns key (row_of entry) ≡ true) (λ entry. is_below columns key (row_of entry) ≡ false) entries place

-- for each key the lists have the same rows in the same order
abbrev pub HaveSameRuns : List ℕ → List Row → List Row → Type 0
HaveSameRuns columns rows others = (key : Row) → with_key columns key rows ≡ with_key columns key others
