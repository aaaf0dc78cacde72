-- What is kept of a join and of a notin, and their changes.
use Rattle.std.proofs.Common.{◌≡◌, ◌∙◌, ℕ, Bool, true, IsTrue, List, sym}
use Rattle.std.proofs.lemmas.Bool.{true≢false}
use Rattle.blz_value.specs.Operators.{Pairs}
use Rattle.blz_value.specs.Record.{Row}
use Rattle.blz_set.specs.Pairs.{lefts_of, rights_of}
use Rattle.bloom_growth.specs.declared.turn_joins.KeptJoin.{KeptJoin}
use Rattle.bloom_growth.specs.declared.turn_notins.KeptNotIn.{KeptNotIn}
use Rattle.bloom_growth.specs.JoinTurns.{JoinTurns, JoinIsKept}
use Rattle.bloom_growth.specs.Kept.{Kept, KeepsForm, IsKeptOf, PartTurns}
use Rattle.bloom_growth.specs.KeptForms.{keyed_kept}
use Rattle.bloom_growth.specs.NotInTurns.{NotInTurns, NotInIsKept}
use Rattle.bloom_parts.specs.declared.change.Change.{Change}
use Rattle.bloom_parts.specs.declared.part_rows.PartRows.{PartRows}
use Rattle.bloom_parts.specs.KeptParts.{PartStands, JoinStands, NotInStands, PartChanges, JoinChanges, NotInChanges}
use Rattle.bloom_parts.specs.PartForms.{kept_of}
use Rattle.bloom_parts.specs.Turns.{rows_in}
use Rattle.bloom_parts.proofs.Turning.{turned_of, turned_as}

-- a part that is kept turned, and what is kept is that of its old rows
part_turns : (columns : List ℕ) (grow : Bool) (old new more gone : List Row) (change : Change) (kept : Kept) → change.kept ≡ true → more ≡ rows_in change.rows → gone ≡ rows_in change.gone → PartChanges grow old new change → PartStands columns grow change.kept old kept → PartTurns columns old new more gone kept
part_turns columns grow old new more gone change kept is m g changes stands = record {
  turned = turned_as old new more gone change changes.turned is m g;
  few = changes.turned.few;
  none_gone = λ grows. g ∙ changes.none_gone (sym stands.form ∙ grows) is;
  kept_is = record { columns_are = stands.columns_are; by_key = stands.by_key is };
}

-- what is kept after it
part_stands : (columns : List ℕ) (grow last : Bool) (old new : List Row) (before after : Kept) → PartStands columns grow last old before → KeepsForm before after → (IsTrue last → IsKeptOf columns new after) → PartStands columns grow last new after
part_stands columns grow last old new before after stands form is = record {
  form = form.grows ∙ stands.form;
  columns_are = form.columns ∙ stands.columns_are;
  by_key = λ l. (is l).by_key;
}

module _ (pairs : Pairs) (left_grows right_grows : Bool) (lo ln ro rn : List Row) (left right : Change) (memo : KeptJoin PartRows PartRows) (c : JoinChanges pairs left_grows right_grows lo ln ro rn left right memo) where
  -- both parts are kept
  pub join_turns : (lm lg rm rg : List Row) → left.kept ≡ true → right.kept ≡ true → lm ≡ rows_in left.rows → lg ≡ rows_in left.gone → rm ≡ rows_in right.rows → rg ≡ rows_in right.gone → JoinTurns pairs lo ln lm lg ro rn rm rg (kept_of memo.left) (kept_of memo.right) memo.count
  join_turns lm lg rm rg l r elm elg erm erg = record {
    left_turns = part_turns (lefts_of pairs) left_grows lo ln lm lg left (kept_of memo.left) l elm elg c.left_changes c.stands.left;
    right_turns = part_turns (rights_of pairs) right_grows ro rn rm rg right (kept_of memo.right) r erm erg c.right_changes c.stands.right;
    left_width = c.left_wide.width;
    right_width = c.right_wide.width;
    left_wide = c.left_wide.wide;
    right_wide = c.right_wide.wide;
    counted = c.stands.counted l r;
    few = c.stands.few l r;
  }

  pub join_stands : (after : KeptJoin PartRows PartRows) → KeepsForm (kept_of memo.left) (kept_of after.left) → KeepsForm (kept_of memo.right) (kept_of after.right) → JoinIsKept pairs ln rn (kept_of after.left) (kept_of after.right) after.count → JoinStands pairs left_grows left.kept right_grows right.kept ln rn after
  join_stands after l r is = record {
    left = part_stands (lefts_of pairs) left_grows left.kept lo ln (kept_of memo.left) (kept_of after.left) c.stands.left l (λ k. is.left_is);
    right = part_stands (rights_of pairs) right_grows right.kept ro rn (kept_of memo.right) (kept_of after.right) c.stands.right r (λ k. is.right_is);
    counted = λ k h. is.counted;
    few = λ k h. is.few;
  }

module _ (pairs : Pairs) (right_grows : Bool) (lo ln ro rn : List Row) (left right : Change) (memo : KeptNotIn PartRows) (c : NotInChanges pairs right_grows lo ln ro rn left right memo) where
  -- both parts are kept; an index that rows leave doesn't grow
  pub notin_turns : (lm lg rm rg : List Row) → left.kept ≡ true → right.kept ≡ true → lm ≡ rows_in left.rows → lg ≡ rows_in left.gone → rm ≡ rows_in right.rows → rg ≡ rows_in right.gone → NotInTurns pairs lo ln lm lg ro rn rm rg (keyed_kept memo.left) (kept_of memo.right)
  notin_turns lm lg rm rg l r elm elg erm erg = record {
    left_turns = record {
      turned = turned_as lo ln lm lg left c.left_turned l elm elg;
      few = c.left_turned.few;
      none_gone = λ g. absurd (true≢false (sym g));
      kept_is = record { columns_are = c.stands.left_columns; by_key = c.stands.left l };
    };
    right_turns = part_turns (rights_of pairs) right_grows ro rn rm rg right (kept_of memo.right) r erm erg c.right_changes c.stands.right;
    few = (turned_of lo ln left c.left_turned l).1;
  }

  pub notin_stands : (after : KeptNotIn PartRows) → after.left.columns.items ≡ memo.left.columns.items → KeepsForm (kept_of memo.right) (kept_of after.right) → NotInIsKept pairs ln rn (keyed_kept after.left) (kept_of after.right) → NotInStands pairs left.kept right_grows right.kept ln rn after
  notin_stands after l form is = record {
    left_columns = l ∙ c.stands.left_columns;
    left = λ k. is.left_is.by_key;
    right = part_stands (rights_of pairs) right_grows right.kept ro rn (kept_of memo.right) (kept_of after.right) c.stands.right form (λ k. is.right_is);
  }
