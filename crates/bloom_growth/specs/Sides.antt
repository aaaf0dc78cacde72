-- The rows of a part that grows by their values in some columns.
use Rattle.std.specs.Prelude.{ℕ, ◌≡◌, ◌≤◌, Result, Ok, Err, List, length}
use Rattle.std.specs.BTreeMap.{IsEmpty}
use Rattle.blz_value.specs.Record.{Row}
use Rattle.blz_set.specs.RecordSet.{row_limit}
use Rattle.blz_set.specs.declared.fault.SetFault.{SetFault}
use Rattle.blz_set.specs.declared.fault.SetFault.TheVariants.{TooManyRows, NoMemory}
use Rattle.bloom_growth.specs.declared.side.Side.{Side}
use Rattle.bloom_growth.specs.Growth.{Extends}
use Rattle.bloom_growth.specs.ByKey.{rows_found, AreByKey}

-- the rows that a side has at a key
abbrev pub rows_at : Side → (key : Row) → List Row
rows_at side key = rows_found side.sets key

-- at each key stand those of these rows that have it in these columns
abbrev pub IsSideOf : List ℕ → List Row → Side → Type 0
IsSideOf columns rows side = AreByKey columns rows side.sets

-- a side by these columns, without rows
pub record IsFreshSide (columns : List ℕ) (side : Side) : Type 0 where
  pub columns_are : side.columns.items ≡ columns
  pub none : IsEmpty side.sets

-- a part's rows grew, and the side is that of its old rows by its own columns
pub record SideGrows (columns : List ℕ) (old new fresh : List Row) (own : Side) : Type 0 where
  pub extends : Extends old new fresh
  pub few : length new ≤ row_limit
  pub columns_are : own.columns.items ≡ columns
  pub side : IsSideOf columns old own

-- the side is that of the new rows, unless memory ran out
abbrev pub SideGrown : {X : Type 0} → List ℕ → List Row → Side → Result X SetFault → Type 0
SideGrown columns new side (Ok x) = IsSideOf columns new side
SideGrown columns new side (Err TooManyRows) = ⊥
SideGrown columns new side (Err NoMemory) = Unit {0}
