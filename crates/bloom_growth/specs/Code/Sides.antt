-- What the private functions of a side give, which put a key's rows in at once.
use Rattle.std.specs.Prelude.{ℕ, ◌≡◌, ◌<◌, ◌≤◌, Option, None, Some, Result, Ok, Err, List, [], ◌++◌, length}
use Rattle.std.specs.BTreeMap.{BTreeMap, IsUnchanged}
use Rattle.blz_value.specs.Record.{Row}
use Rattle.blz_value.specs.Sets.{set_of, IsRowSet}
use Rattle.blz_set.specs.RecordSet.{row_limit}
use Rattle.blz_set.specs.declared.fault.SetFault.{SetFault}
use Rattle.blz_set.specs.declared.fault.SetFault.TheVariants.{TooManyRows, NoMemory}
use Rattle.bloom_growth.specs.ByKey.{rows_found}

-- at each key the rows stand in record order, each once
abbrev pub HaveRowSets : BTreeMap Row (List Row) → Type 0
HaveRowSets sets = (key : Row) → IsRowSet (rows_found sets key)

-- the key has these rows too, and each other key has its own
abbrev pub HasSet : (key : Row) (set : List Row) → (old new : BTreeMap Row (List Row)) → Type 0
HasSet key set old new = (rows_found new key ≡ set_of (rows_found old key ++ set)) × ((other : Row) → ¬ (other ≡ key) → rows_found new other ≡ rows_found old other)

-- the same where the key has rows, and else nothing changes and the set comes back; TooManyRows comes only where they are too many
abbrev pub AddsSetAt : (key : Row) (set : List Row) → (old new : BTreeMap Row (List Row)) → Result (Option (List Row)) SetFault → Type 0
AddsSetAt key set old new (Ok None) = HasSet key set old new
AddsSetAt key set old new (Ok (Some back)) = IsUnchanged old new × (rows_found old key ≡ []) × (back ≡ set)
AddsSetAt key set old new (Err TooManyRows) = row_limit < length (set_of (rows_found old key ++ set))
AddsSetAt key set old new (Err NoMemory) = Unit {0}

-- the same at each key
abbrev pub AddsSet : {X : Type 0} → (key : Row) (set : List Row) → (old new : BTreeMap Row (List Row)) → Result X SetFault → Type 0
AddsSet key set old new (Ok x) = HasSet key set old new
AddsSet key set old new (Err TooManyRows) = row_limit < length (set_of (rows_found old key ++ set))
AddsSet key set old new (Err NoMemory) = Unit {0}

-- at each key stand the rows of both; TooManyRows comes only where these are too many at some key
abbrev pub Merges : {X : Type 0} → (old more new : BTreeMap Row (List Row)) → Result X SetFault → Type 0
Merges old more new (Ok x) = (key : Row) → rows_found new key ≡ set_of (rows_found old key ++ rows_found more key)
Merges old more new (Err TooManyRows) = (most : ℕ) → ((key : Row) → length (set_of (rows_found old key ++ rows_found more key)) ≤ most) → row_limit < most
Merges old more new (Err NoMemory) = Unit {0}
