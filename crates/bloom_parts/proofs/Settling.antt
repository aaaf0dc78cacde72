-- Parts whose rows are settled: the same change by sets.
use Rattle.std.proofs.Common.{◌∙◌, Bool, List, sym, subst}
use Rattle.blz_value.specs.Operators.{Pairs}
use Rattle.blz_value.specs.Record.{Row}
use Rattle.bloom_growth.specs.declared.turn_joins.KeptJoin.{KeptJoin}
use Rattle.bloom_growth.specs.declared.turn_notins.KeptNotIn.{KeptNotIn}
use Rattle.bloom_parts.specs.declared.change.Change.{Change}
use Rattle.bloom_parts.specs.declared.part_rows.PartRows.{PartRows}
use Rattle.bloom_parts.specs.KeptParts.{JoinStands, NotInStands, PartChanges, JoinChanges, NotInChanges}
use Rattle.bloom_parts.specs.Turns.{Turns}
use Rattle.bloom_parts.specs.Code.Settled.{AreSettled}
use Rattle.bloom_parts.proofs.Turning.{lent_turns}

module _ (change settled : Change) (s : AreSettled change settled) where
  pub turns_settled : (old new : List Row) → Turns old new change → Turns old new settled
  turns_settled old new t = lent_turns old new change settled s.kept s.rows s.gone t

  changes_settled : (grow : Bool) (old new : List Row) → PartChanges grow old new change → PartChanges grow old new settled
  changes_settled grow old new p = record {
    turned = turns_settled old new p.turned;
    none_gone = λ g k. s.gone ∙ p.none_gone g (sym s.kept ∙ k);
  }

module _ (left left2 right right2 : Change) (l : AreSettled left left2) (r : AreSettled right right2) (pairs : Pairs) where
  pub join_settled : (lg rg : Bool) (lo ln ro rn : List Row) (memo : KeptJoin PartRows PartRows) → JoinChanges pairs lg rg lo ln ro rn left right memo → JoinChanges pairs lg rg lo ln ro rn left2 right2 memo
  join_settled lg rg lo ln ro rn memo c = record {
    left_changes = changes_settled left left2 l lg lo ln c.left_changes;
    right_changes = changes_settled right right2 r rg ro rn c.right_changes;
    left_wide = c.left_wide;
    right_wide = c.right_wide;
    stands = subst (λ (k : Bool). JoinStands pairs lg k rg right2.kept lo ro memo) (sym l.kept) (subst (λ (k : Bool). JoinStands pairs lg left.kept rg k lo ro memo) (sym r.kept) c.stands);
  }

  pub join_stands_settled : (lg rg : Bool) (ln rn : List Row) (memo : KeptJoin PartRows PartRows) → JoinStands pairs lg left2.kept rg right2.kept ln rn memo → JoinStands pairs lg left.kept rg right.kept ln rn memo
  join_stands_settled lg rg ln rn memo s = subst (λ (k : Bool). JoinStands pairs lg k rg right.kept ln rn memo) l.kept (subst (λ (k : Bool). JoinStands pairs lg left2.kept rg k ln rn memo) r.kept s)

  pub notin_settled : (rg : Bool) (lo ln ro rn : List Row) (memo : KeptNotIn PartRows) → NotInChanges pairs rg lo ln ro rn left right memo → NotInChanges pairs rg lo ln ro rn left2 right2 memo
  notin_settled rg lo ln ro rn memo c = record {
    left_turned = turns_settled left left2 l lo ln c.left_turned;
    right_changes = changes_settled right right2 r rg ro rn c.right_changes;
    stands = subst (λ (k : Bool). NotInStands pairs k rg right2.kept lo ro memo) (sym l.kept) (subst (λ (k : Bool). NotInStands pairs left.kept rg k lo ro memo) (sym r.kept) c.stands);
  }

  pub notin_stands_settled : (rg : Bool) (ln rn : List Row) (memo : KeptNotIn PartRows) → NotInStands pairs left2.kept rg right2.kept ln rn memo → NotInStands pairs left.kept rg right.kept ln rn memo
  notin_stands_settled rg ln rn memo s = subst (λ (k : Bool). NotInStands pairs k rg right.kept ln rn memo) l.kept (subst (λ (k : Bool). NotInStands pairs left2.kept rg k ln rn memo) r.kept s)
