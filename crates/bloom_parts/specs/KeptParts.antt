-- What is kept of the parts of joins and notins from step to step, and how their parts turn.
use Rattle.std.specs.Prelude.{ℕ, ◌≡◌, ◌≤◌, Bool, IsTrue, List, [], length}
use Rattle.blz_value.specs.Operators.{Pairs, join_rows}
use Rattle.blz_value.specs.Record.{Row}
use Rattle.blz_value.specs.Sets.{set_of}
use Rattle.blz_set.specs.Pairs.{lefts_of, rights_of}
use Rattle.blz_set.specs.RecordSet.{row_limit}
use Rattle.bloom_growth.specs.declared.turn_joins.KeptJoin.{KeptJoin}
use Rattle.bloom_growth.specs.declared.turn_notins.KeptNotIn.{KeptNotIn}
use Rattle.bloom_growth.specs.ByKey.{AreByKey}
pub use Rattle.bloom_growth.specs.JoinTurns.{IsWide}
use Rattle.bloom_growth.specs.Kept.{Kept}
use Rattle.bloom_growth.specs.Keyed.{IsKeyedBy}
use Rattle.bloom_parts.specs.declared.change.Change.{Change}
use Rattle.bloom_parts.specs.declared.part_rows.PartRows.{PartRows}
use Rattle.bloom_parts.specs.PartForms.{kept_of}
use Rattle.bloom_parts.specs.Turns.{rows_in, Turns}

-- what is kept of a part by these columns: in the form for parts that grow exactly where it does, and where the part is kept these rows
pub record PartStands (columns : List ℕ) (grow last : Bool) (rows : List Row) (kept : Kept) : Type 0 where
  pub form : kept.grows ≡ grow
  pub columns_are : kept.columns ≡ columns
  pub by_key : IsTrue last → AreByKey columns rows kept.sets

-- of a join of these rows: each part by its columns of the pairs, and where both are kept the number of joined rows
pub record JoinStands (pairs : Pairs) (left_grows left_lasts right_grows right_lasts : Bool) (lefts rights : List Row) (memo : KeptJoin PartRows PartRows) : Type 0 where
  pub left : PartStands (lefts_of pairs) left_grows left_lasts lefts (kept_of memo.left)
  pub right : PartStands (rights_of pairs) right_grows right_lasts rights (kept_of memo.right)
  pub counted : IsTrue left_lasts → IsTrue right_lasts → memo.count ≡ length (set_of (join_rows pairs lefts rights))
  pub few : IsTrue left_lasts → IsTrue right_lasts → length (set_of (join_rows pairs lefts rights)) ≤ row_limit

-- of a notin of these rows: the left rows where they are kept, and the right part, each by its columns of the pairs
pub record NotInStands (pairs : Pairs) (left_lasts right_grows right_lasts : Bool) (lefts rights : List Row) (memo : KeptNotIn PartRows) : Type 0 where
  pub left_columns : memo.left.columns.items ≡ lefts_of pairs
  pub left : IsTrue left_lasts → IsKeyedBy (lefts_of pairs) lefts memo.left
  pub right : PartStands (rights_of pairs) right_grows right_lasts rights (kept_of memo.right)

-- a part turned, which where it grows and is kept loses nothing
pub record PartChanges (grow : Bool) (old new : List Row) (change : Change) : Type 0 where
  pub turned : Turns old new change
  pub none_gone : IsTrue grow → IsTrue change.kept → rows_in change.gone ≡ []

-- both parts of a join turned, the rows of each of one width, and what is kept is that of the old rows
pub record JoinChanges (pairs : Pairs) (left_grows right_grows : Bool) (lo ln ro rn : List Row) (left right : Change) (memo : KeptJoin PartRows PartRows) : Type 0 where
  pub left_changes : PartChanges left_grows lo ln left
  pub right_changes : PartChanges right_grows ro rn right
  pub left_wide : IsWide lo ln
  pub right_wide : IsWide ro rn
  pub stands : JoinStands pairs left_grows left.kept right_grows right.kept lo ro memo

-- both parts of a notin turned, and what is kept is that of the old rows
pub record NotInChanges (pairs : Pairs) (right_grows : Bool) (lo ln ro rn : List Row) (left right : Change) (memo : KeptNotIn PartRows) : Type 0 where
  pub left_turned : Turns lo ln left
  pub right_changes : PartChanges right_grows ro rn right
  pub stands : NotInStands pairs left.kept right_grows right.kept lo ro memo
