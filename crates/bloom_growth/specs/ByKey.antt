-- Maps that have rows at keys.
use Rattle.std.specs.Prelude.{ℕ, ◌≡◌, ◌<◌, Bool, true, false, Some, Result, Ok, Err, List, [], ◌∷◌, length, unwrap_or}
use Rattle.std.specs.BTreeMap.{BTreeMap, IsUnchanged, get}
use Rattle.blz_value.specs.Groups.{with_key}
use Rattle.blz_value.specs.Record.{Row, record_cmp}
use Rattle.blz_value.specs.Sets.{set_of}
use Rattle.blz_set.specs.RecordSet.{row_limit}
use Rattle.blz_set.specs.declared.fault.SetFault.{SetFault}
use Rattle.blz_set.specs.declared.fault.SetFault.TheVariants.{TooManyRows, NoMemory}

-- the rows that a map has at a key
abbrev pub rows_found : BTreeMap Row (List Row) → Row → List Row
rows_found sets key = unwrap_or (get record_cmp sets key) []

-- at each key stand those rows that have it in these columns
abbrev pub AreByKey : List ℕ → List Row → BTreeMap Row (List Row) → Type 0
AreByKey columns rows sets = (key : Row) → rows_found sets key ≡ with_key columns key rows

-- the map has these rows; TooManyRows comes only where they are too many
abbrev pub MakesByKey : {X : Type 0} → List ℕ → List Row → BTreeMap Row (List Row) → Result X SetFault → Type 0
MakesByKey columns rows sets (Ok x) = AreByKey columns rows sets
MakesByKey columns rows sets (Err TooManyRows) = row_limit < length rows
MakesByKey columns rows sets (Err NoMemory) = Unit {0}

-- no key stands without rows
abbrev pub NoneIsEmpty : BTreeMap Row (List Row) → Type 0
NoneIsEmpty sets = (key : Row) → get record_cmp sets key ≡ Some [] → ⊥

-- a row more at a key that has rows, which is the answer, and else nothing changes
abbrev pub AddsAt : Bool → (key row : Row) → (old new : BTreeMap Row (List Row)) → Type 0
AddsAt true key row old new = (rows_found new key ≡ set_of (row ∷ rows_found old key)) × ((other : Row) → ¬ (other ≡ key) → rows_found new other ≡ rows_found old other)
AddsAt false key row old new = IsUnchanged old new × (rows_found old key ≡ [])

-- the same; TooManyRows comes only where they are too many
abbrev pub AddsTo : (key row : Row) → (old new : BTreeMap Row (List Row)) → Result Bool SetFault → Type 0
AddsTo key row old new (Ok there) = AddsAt there key row old new
AddsTo key row old new (Err TooManyRows) = row_limit < length (set_of (row ∷ rows_found old key))
AddsTo key row old new (Err NoMemory) = Unit {0}
