-- A join of two parts that turn.
use Rattle.std.specs.Prelude.{ℕ, ◌≡◌, ◌≤◌, List, length}
use Rattle.std.specs.List.{All}
use Rattle.blz_value.specs.Operators.{Pairs, join_rows}
use Rattle.blz_value.specs.Record.{Row}
use Rattle.blz_value.specs.Sets.{set_of}
use Rattle.blz_set.specs.Pairs.{lefts_of, rights_of}
use Rattle.blz_set.specs.RecordSet.{row_limit}
use Rattle.bloom_growth.specs.Kept.{Kept, IsKeptOf, PartTurns}

-- each of the old and of the new rows has so many values
abbrev pub HaveWidth : ℕ → (old new : List Row) → Type 0
HaveWidth width old new = All (λ row. length row ≡ width) old × All (λ row. length row ≡ width) new

-- the rows of a part have one width, before and after
pub record IsWide (old new : List Row) : Type 0 where
  pub width : ℕ
  pub wide : HaveWidth width old new

-- both parts turned, their rows of one width each, and what is kept is that of the old rows, with the number of joined rows
pub record JoinTurns (pairs : Pairs) (lo ln lm lg ro rn rm rg : List Row) (left right : Kept) (count : ℕ) : Type 0 where
  pub left_turns : PartTurns (lefts_of pairs) lo ln lm lg left
  pub right_turns : PartTurns (rights_of pairs) ro rn rm rg right
  pub left_width : ℕ
  pub right_width : ℕ
  pub left_wide : HaveWidth left_width lo ln
  pub right_wide : HaveWidth right_width ro rn
  pub counted : count ≡ length (set_of (join_rows pairs lo ro))
  pub few : length (set_of (join_rows pairs lo ro)) ≤ row_limit

-- what is kept of a join is that of these rows, with the number of joined rows
pub record JoinIsKept (pairs : Pairs) (lefts rights : List Row) (left right : Kept) (count : ℕ) : Type 0 where
  pub left_is : IsKeptOf (lefts_of pairs) lefts left
  pub right_is : IsKeptOf (rights_of pairs) rights right
  pub counted : count ≡ length (set_of (join_rows pairs lefts rights))
  pub few : length (set_of (join_rows pairs lefts rights)) ≤ row_limit
