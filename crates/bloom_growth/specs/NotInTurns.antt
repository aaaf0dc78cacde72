-- A notin of two parts that turn.
use Rattle.std.specs.Prelude.{◌≤◌, List, length}
use Rattle.blz_value.specs.Operators.{Pairs}
use Rattle.blz_value.specs.Record.{Row}
use Rattle.blz_set.specs.Pairs.{lefts_of, rights_of}
use Rattle.blz_set.specs.RecordSet.{row_limit}
use Rattle.bloom_growth.specs.Kept.{Kept, IsKeptOf, PartTurns}

-- both parts turned, and what is kept is that of the old rows
pub record NotInTurns (pairs : Pairs) (lo ln lm lg ro rn rm rg : List Row) (left right : Kept) : Type 0 where
  pub left_turns : PartTurns (lefts_of pairs) lo ln lm lg left
  pub right_turns : PartTurns (rights_of pairs) ro rn rm rg right
  pub few : length lo ≤ row_limit

-- what is kept of a notin is that of these rows
pub record NotInIsKept (pairs : Pairs) (lefts rights : List Row) (left right : Kept) : Type 0 where
  pub left_is : IsKeptOf (lefts_of pairs) lefts left
  pub right_is : IsKeptOf (rights_of pairs) rights right
  pub few : length lefts ≤ row_limit
