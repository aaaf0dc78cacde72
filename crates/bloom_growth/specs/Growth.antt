-- Sets that grow, and which of their rows are new.
use Rattle.std.specs.Prelude.{◌≡◌, ◌<◌, ◌≤◌, Bool, cond, Result, Ok, Err, List, [], ◌∷◌, ◌++◌, length}
use Rattle.blz_value.specs.Members.{Has}
use Rattle.blz_value.specs.Record.{Row}
use Rattle.blz_value.specs.Sets.{set_of, IsRowSet}
use Rattle.blz_set.specs.RecordSet.{row_limit}
use Rattle.blz_set.specs.declared.fault.SetFault.{SetFault}
use Rattle.blz_set.specs.declared.fault.SetFault.TheVariants.{TooManyRows, NoMemory}

-- rows that stand in any order, each once, and not too many
pub record IsRowOrder (rows : List Row) : Type 0 where
  pub once : length (set_of rows) ≡ length rows
  pub few : length rows ≤ row_limit

-- the new rows are the old ones with these, of which none is old
pub record Extends (old new fresh : List Row) : Type 0 where
  pub sorted : IsRowSet old
  pub fresh_sorted : IsRowSet fresh
  pub all : new ≡ set_of (old ++ fresh)
  pub apart : (row : Row) → Has row fresh → ¬ Has row old

-- the old rows grow by some, and the answer is those that are new; a fault may leave part of them
abbrev pub Takes : (old more new : List Row) → Result (List Row) SetFault → Type 0
Takes old more new (Ok fresh) = (new ≡ set_of (old ++ more)) × (length new ≤ row_limit) × Extends old new fresh
Takes old more new (Err TooManyRows) = row_limit < length (set_of (old ++ more))
Takes old more new (Err NoMemory) = Unit {0}

-- the same of one row, and the answer is whether it is new
abbrev pub TakesRow : (old : List Row) (row : Row) (new : List Row) → Result Bool SetFault → Type 0
TakesRow old row new (Ok fresh) = Takes old (row ∷ []) new (Ok (cond fresh (row ∷ []) []))
TakesRow old row new (Err fault) = Takes old (row ∷ []) new (Err fault)
