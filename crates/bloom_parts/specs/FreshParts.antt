-- What is kept of parts before the first step.
use Rattle.std.specs.Prelude.{ℕ, ◌≡◌, Bool, List}
use Rattle.std.specs.BTreeMap.{IsEmpty}
use Rattle.blz_value.specs.Operators.{Pairs}
use Rattle.blz_set.specs.Pairs.{lefts_of, rights_of}
use Rattle.bloom_growth.specs.declared.turn_joins.KeptJoin.{KeptJoin}
use Rattle.bloom_growth.specs.declared.turn_notins.KeptNotIn.{KeptNotIn}
use Rattle.bloom_growth.specs.Kept.{Kept}
use Rattle.bloom_growth.specs.Keyed.{IsFreshKeyed}
use Rattle.bloom_parts.specs.declared.part_rows.PartRows.{PartRows}
use Rattle.bloom_parts.specs.PartForms.{kept_of}

-- what is kept of a part by these columns, without rows, in the form for parts that grow exactly where it does
pub record IsFreshPart (columns : List ℕ) (grow : Bool) (kept : Kept) : Type 0 where
  pub form : kept.grows ≡ grow
  pub columns_are : kept.columns ≡ columns
  pub none : IsEmpty kept.sets

-- of a join
pub record IsFreshJoin (pairs : Pairs) (left_grows right_grows : Bool) (memo : KeptJoin PartRows PartRows) : Type 0 where
  pub left : IsFreshPart (lefts_of pairs) left_grows (kept_of memo.left)
  pub right : IsFreshPart (rights_of pairs) right_grows (kept_of memo.right)
  pub count : memo.count ≡ 0

-- of a notin
pub record IsFreshNotIn (pairs : Pairs) (right_grows : Bool) (memo : KeptNotIn PartRows) : Type 0 where
  pub left : IsFreshKeyed (lefts_of pairs) memo.left
  pub right : IsFreshPart (rights_of pairs) right_grows (kept_of memo.right)
