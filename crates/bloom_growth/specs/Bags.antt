-- Rows that are kept with how often they are given, and what changes of them as a set.
use Rattle.std.specs.Prelude.{ℕ, ◌<◌, ◌≤◌, Result, Ok, Err, List, length}
use Rattle.blz_value.specs.Operators.{project_rows}
use Rattle.blz_value.specs.Record.{Row, record_cmp}
use Rattle.blz_value.specs.Sets.{set_of}
use Rattle.blz_set.specs.RecordSet.{row_limit}
use Rattle.blz_set.specs.declared.fault.SetFault.{SetFault}
use Rattle.blz_set.specs.declared.fault.SetFault.TheVariants.{TooManyRows, NoMemory}
use Rattle.bloom_growth.specs.declared.bag.Bag.{Bag}
use Rattle.bloom_growth.specs.declared.bag.Passing.{Passing}
use Rattle.bloom_growth.specs.Growth.{Extends}
use Rattle.bloom_growth.specs.Turned.{Turned}
use Rattle.bloom_growth.specs.Counts.{AreCounted}

-- at each row stands how often these rows give it; the order in which they do is nothing
pub record IsBag (rows : List Row) (bag : Bag) : Type 0 where
  pub counted : AreCounted record_cmp rows bag.counts
  pub few : length (set_of rows) ≤ row_limit

-- the bag is that of these rows; TooManyRows comes only where they are too many
abbrev pub BecomesBag : {X : Type 0} → List Row → Bag → Result X SetFault → Type 0
BecomesBag rows bag (Ok x) = IsBag rows bag
BecomesBag rows bag (Err TooManyRows) = row_limit < length (set_of rows)
BecomesBag rows bag (Err NoMemory) = Unit {0}

-- the rows that left a bag, as a set
abbrev pub left_rows : Passing → List Row
left_rows passing = set_of passing.left.items

-- the rows that entered it, as a set
abbrev pub entered_rows : Passing → List Row
entered_rows passing = set_of passing.entered.items

-- a bag's rows became those between by what left, and the new ones by what entered
pub record Passed (old mid new : List Row) (passing : Passing) : Type 0 where
  pub left : Extends mid old (left_rows passing)
  pub entered : Extends mid new (entered_rows passing)
  pub few_old : length old ≤ row_limit
  pub few_new : length new ≤ row_limit

-- a part's rows changed, and the bag has these columns of each of the old ones
pub record ColumnsTurn (columns : List ℕ) (old new more gone : List Row) (bag : Bag) : Type 0 where
  pub turned : Turned old new more gone
  pub few_old : length old ≤ row_limit
  pub few_new : length new ≤ row_limit
  pub stand : IsBag (project_rows columns old) bag
