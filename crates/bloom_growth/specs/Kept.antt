-- What is kept of a part by key, as the part turns.
use Rattle.std.specs.Prelude.{ℕ, ◌≡◌, ◌≤◌, Bool, IsTrue, Result, Ok, Err, List, [], length}
use Rattle.std.specs.BTreeMap.{BTreeMap}
use Rattle.blz_value.specs.Record.{Row}
use Rattle.blz_set.specs.RecordSet.{row_limit}
use Rattle.blz_set.specs.declared.fault.SetFault.{SetFault}
use Rattle.blz_set.specs.declared.fault.SetFault.TheVariants.{TooManyRows, NoMemory}
use Rattle.bloom_growth.specs.ByKey.{AreByKey}
use Rattle.bloom_growth.specs.Turned.{Turned}

-- the columns by whose values rows stand, the rows at each key, and whether the part only grows
pub record Kept : Type 0 where
  pub columns : List ℕ
  pub sets : BTreeMap Row (List Row)
  pub grows : Bool

-- the columns stay, and whether the part only grows
pub record KeepsForm (old new : Kept) : Type 0 where
  pub columns : new.columns ≡ old.columns
  pub grows : new.grows ≡ old.grows

-- at each key stand those of these rows that have it in these columns
pub record IsKeptOf (columns : List ℕ) (rows : List Row) (kept : Kept) : Type 0 where
  pub columns_are : kept.columns ≡ columns
  pub by_key : AreByKey columns rows kept.sets

-- a part turned, and what is kept is that of its old rows
pub record PartTurns (columns : List ℕ) (old new more gone : List Row) (kept : Kept) : Type 0 where
  pub turned : Turned old new more gone
  pub few : length new ≤ row_limit
  pub none_gone : IsTrue kept.grows → gone ≡ []
  pub kept_is : IsKeptOf columns old kept

-- what is kept is that of these rows, unless memory ran out
abbrev pub IsGrownTo : {X : Type 0} → List ℕ → List Row → BTreeMap Row (List Row) → Result X SetFault → Type 0
IsGrownTo columns rows sets (Ok x) = AreByKey columns rows sets
IsGrownTo columns rows sets (Err TooManyRows) = ⊥
IsGrownTo columns rows sets (Err NoMemory) = Unit {0}

abbrev pub IsTurnedTo : {X : Type 0} → List ℕ → List Row → Kept → Result X SetFault → Type 0
IsTurnedTo columns rows kept (Ok x) = IsKeptOf columns rows kept
IsTurnedTo columns rows kept (Err TooManyRows) = ⊥
IsTurnedTo columns rows kept (Err NoMemory) = Unit {0}
