-- Projections that keep all columns of each row, in whatever order: no two rows of one width become one.
use Rattle.std.specs.Prelude.{ℕ, ◌≡◌, ◌≤◌, Bool, true, not, List, length, filter, nat_eq}
use Rattle.std.specs.List.{list_all, list_any, range_with_len}
use Rattle.blz_value.specs.Operators.{project_rows}
use Rattle.blz_value.specs.Record.{Row}
use Rattle.blz_set.specs.RecordSet.{row_limit}
use Rattle.bloom_growth.specs.declared.bag.Bag.{Bag}
use Rattle.bloom_growth.specs.Bags.{IsBag}
use Rattle.bloom_growth.specs.JoinTurns.{IsWide}
use Rattle.bloom_growth.specs.Turned.{Turned}

-- whether a column is among these
abbrev pub has_column : List ℕ → ℕ → Bool
has_column columns column = list_any (λ other. nat_eq other column) columns

-- whether each column of a row is
abbrev pub keeps_all : List ℕ → Row → Bool
keeps_all columns row = list_all (has_column columns) (range_with_len 0 (length row))

-- these columns of the other rows, which may become one
abbrev pub counted_rows : List ℕ → List Row → List Row
counted_rows columns rows = project_rows columns (filter (λ row. not (keeps_all columns row)) rows)

-- a part's rows changed, all of one width, and of those that come and go all columns are kept
pub record WholeTurn (columns : List ℕ) (old new more gone : List Row) : Type 0 where
  pub turned : Turned old new more gone
  pub few_old : length old ≤ row_limit
  pub few_new : length new ≤ row_limit
  pub wide : IsWide old new
  pub more_whole : list_all (keeps_all columns) more ≡ true
  pub gone_whole : list_all (keeps_all columns) gone ≡ true

-- a part's rows changed, all of one width, and the bag has these columns of the old ones of which not all are kept
pub record ProjectTurn (columns : List ℕ) (old new more gone : List Row) (bag : Bag) : Type 0 where
  pub turned : Turned old new more gone
  pub few_old : length old ≤ row_limit
  pub few_new : length new ≤ row_limit
  pub wide : IsWide old new
  pub stand : IsBag (counted_rows columns old) bag
