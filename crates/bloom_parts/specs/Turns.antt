-- What a part has in a step: all its rows, or where it is kept those that come and those that go.
use Rattle.std.specs.Prelude.{◌≡◌, ◌<◌, ◌≤◌, Bool, true, false, Option, None, Some, Result, Ok, Err, List, [], ◌∷◌, length}
use Rattle.blz_value.specs.Record.{Row}
use Rattle.blz_value.specs.Sets.{IsRowSet}
use Rattle.blz_set.specs.RecordSet.{row_limit}
use Rattle.blz_set.specs.declared.fault.SetFault.{SetFault}
use Rattle.blz_set.specs.declared.fault.SetFault.TheVariants.{TooManyRows, NoMemory}
use Rattle.bloom_parts.specs.declared.change.Rows.{Rows}
use Rattle.bloom_parts.specs.declared.change.Rows.TheVariants.{Lent, Own, One}
use Rattle.bloom_parts.specs.declared.change.Change.{Change}
use Rattle.bloom_growth.specs.Turned.{Turned}

-- the rows that are lent or owned, or the one row
abbrev pub rows_in : Rows → List Row
rows_in (Lent set) = set.now
rows_in (Own set) = set
rows_in (One row) = row.now ∷ []

-- these are the rows that come and those that go, or all rows
abbrev pub HasTurned : (kept : Bool) → (old new rows gone : List Row) → Type 0
HasTurned true old new rows gone = Turned old new rows gone × (length old ≤ row_limit)
HasTurned false old new rows gone = rows ≡ new

-- a part's rows were the old ones and are the new ones, which are a set
pub record Turns (old new : List Row) (change : Change) : Type 0 where
  pub sorted : IsRowSet new
  pub few : length new ≤ row_limit
  pub rows : HasTurned change.kept old new (rows_in change.rows) (rows_in change.gone)

-- the answer is such a change, of a part that is kept or of all rows; TooManyRows comes only where the new rows are too many
abbrev pub TurnsTo : (kept : Bool) → (old new : List Row) → Result Change SetFault → Type 0
TurnsTo kept old new (Ok change) = (change.kept ≡ kept) × Turns old new change
TurnsTo kept old new (Err TooManyRows) = row_limit < length new
TurnsTo kept old new (Err NoMemory) = Unit {0}

-- what a collection has in a step, which held old rows and holds new ones; one that there isn't holds none
abbrev pub HasTurnedAt : (last : Bool) → (old new : List Row) → Option Change → Type 0
HasTurnedAt last old new None = (new ≡ []) × (last ≡ false)
HasTurnedAt last old new (Some change) = (change.kept ≡ last) × Turns old new change
