-- The rows of a part that rows enter and leave, by their values in some columns.
use Rattle.std.specs.Prelude.{ℕ, ◌≡◌, List}
use Rattle.std.specs.BTreeMap.{IsEmpty}
use Rattle.blz_value.specs.Record.{Row}
use Rattle.bloom_growth.specs.declared.keyed.KeyedRows.{KeyedRows}
use Rattle.bloom_growth.specs.ByKey.{AreByKey}

-- at each key stand those of these rows that have it in these columns
abbrev pub IsKeyedBy : List ℕ → List Row → KeyedRows → Type 0
IsKeyedBy columns rows keyed = AreByKey columns rows keyed.sets

-- an index by these columns, without rows
pub record IsFreshKeyed (columns : List ℕ) (keyed : KeyedRows) : Type 0 where
  pub columns_are : keyed.columns.items ≡ columns
  pub none : IsEmpty keyed.sets
