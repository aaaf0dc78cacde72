-- What a set of records keeps true of its rows.
use Rattle.std.specs.Prelude.{ℕ, ◌≤◌, List, length}
use Rattle.blz_value.specs.Record.{Row}
use Rattle.blz_value.specs.Sets.{IsRowSet}

-- the most rows of a set
abbrev pub row_limit : ℕ
row_limit = 262144

-- the rows are sorted without repeats, and not too many
pub record IsRecordSet (rows : List Row) : Type 0 where
  pub sorted : IsRowSet rows
  pub small : length rows ≤ row_limit
