use Rattle.std.proofs.Common.{◌≡◌, ◌∙◌, List, ap, sym, subst}
use Rattle.blz_value.specs.Operators.{notin_rows}
use Rattle.blz_value.specs.Record.{Row}
use Rattle.blz_value.specs.Sets.{set_of, IsRowSet}
use Rattle.blz_set.specs.Missing.{missing_from}
use Rattle.blz_set.specs.Pairs.{lefts_of, rights_of}
use Rattle.blz_set.proofs.Unions.{handed_on}
use Rattle.bloom_growth.specs.ByKey.{AreByKey}
use Rattle.bloom_growth.specs.KeptForms.{keyed_kept}
use Rattle.bloom_growth.specs.Turned.{TurnsInto}
use Rattle.bloom_growth.proofs.GrowSets.{missing_sorted}
use Rattle.bloom_growth.proofs.TurnedLemmas.{stays}
use Rattle.bloom_growth.proofs.TurnNotIns.{unmatched_turned, unmatched_few, lost_fault, gained_fault}
use Rattle.bloom_growth.proofs.turn_notins.turn_notin.Goals as goal

pub returns-in_err-gone-clause-rows : goal.returns-in_err-gone-clause-rows
returns-in_err-gone-clause-rows g c = λ lo ln ro rn t.
    let pairs = c.args.pairs.now in
    let lm = c.args.left.more.now in
    let lg = c.args.left.gone.now in
    let rm = c.args.right.more.now in
    let rg = c.args.right.gone.now in
    let left = keyed_kept c.args.memo.now.left in
    let right = g.R.RowsByKey.kept c.args.memo.now.right in
    let own : c.args.memo.now.left.columns.items ≡ lefts_of pairs = t.left_turns.kept_is.columns_are in
    let side : AreByKey (lefts_of pairs) lo c.args.memo.now.left.sets = t.left_turns.kept_is.by_key in
    let sorted : IsRowSet lo = t.left_turns.turned.old_sorted in
    let fault = c.in_err-gone.field-0.0 in
    subst (TurnsInto (set_of (notin_rows pairs lo ro)) (set_of (notin_rows pairs ln rn))) (sym (handed_on _ c.from_residual.result fault c.from_residual.ensures.1))
    (lost_fault pairs lo ln lm lg ro rn rm rg left right t fault (c.in_err-gone.ensures.rows lo ro sorted own side t.right_turns.kept_is.by_key))

pub returns-in_err-more-clause-rows : goal.returns-in_err-more-clause-rows
returns-in_err-more-clause-rows g c = λ lo ln ro rn t.
    let pairs = c.args.pairs.now in
    let lm = c.args.left.more.now in
    let lg = c.args.left.gone.now in
    let rm = c.args.right.more.now in
    let rg = c.args.right.gone.now in
    let left = keyed_kept c.args.memo.now.left in
    let right = g.R.RowsByKey.kept c.args.memo.now.right in
    let own : c.args.memo.now.left.columns.items ≡ lefts_of pairs = t.left_turns.kept_is.columns_are in
    let side : AreByKey (lefts_of pairs) lo c.args.memo.now.left.sets = t.left_turns.kept_is.by_key in
    let sorted : IsRowSet lo = t.left_turns.turned.old_sorted in
    let mid : List Row = missing_from lg lo in
    let stayed : AreByKey (lefts_of pairs) mid c.lost_lefts.new.lefts.sets = c.in_ok-gone.ensures.left_side lo sorted own side in
    let other = c.in_ok-turn_part.ensures.rows (rights_of pairs) ro rn t.right_turns in
    let fault = c.in_err-more.field-0.0 in
    subst (TurnsInto (set_of (notin_rows pairs lo ro)) (set_of (notin_rows pairs ln rn))) (sym (handed_on _ c.from_residual-in_err-more.result fault c.from_residual-in_err-more.ensures.1))
    (gained_fault pairs lo ln lm lg ro rn rm rg left right t fault (c.in_err-more.ensures.rows mid rn stayed other.by_key))

pub returns-clause-rows : goal.returns-clause-rows
returns-clause-rows g c = λ lo ln ro rn t.
    let pairs = c.args.pairs.now in
    let lm = c.args.left.more.now in
    let lg = c.args.left.gone.now in
    let rm = c.args.right.more.now in
    let rg = c.args.right.gone.now in
    let left = keyed_kept c.args.memo.now.left in
    let right = g.R.RowsByKey.kept c.args.memo.now.right in
    let own : c.args.memo.now.left.columns.items ≡ lefts_of pairs = t.left_turns.kept_is.columns_are in
    let side : AreByKey (lefts_of pairs) lo c.args.memo.now.left.sets = t.left_turns.kept_is.by_key in
    let sorted : IsRowSet lo = t.left_turns.turned.old_sorted in
    let mid : List Row = missing_from lg lo in
    let stayed : AreByKey (lefts_of pairs) mid c.lost_lefts.new.lefts.sets = c.in_ok-gone.ensures.left_side lo sorted own side in
    let other = c.in_ok-turn_part.ensures.rows (rights_of pairs) ro rn t.right_turns in
    let gone = c.in_ok-gone.ensures.rows lo ro sorted own side t.right_turns.kept_is.by_key in
    let more = c.in_ok-more.ensures.rows mid rn stayed other.by_key in
    (unmatched_turned pairs lo ln lm lg ro rn rm rg left right t c.in_ok-more.more c.in_ok-gone.gone more.0 gone.0, unmatched_few pairs lo ln lm lg ro rn rm rg left right t)

pub returns-clause-kept : goal.returns-clause-kept
returns-clause-kept g c = λ lo ln ro rn t.
    let pairs = c.args.pairs.now in
    let lm = c.args.left.more.now in
    let lg = c.args.left.gone.now in
    let rm = c.args.right.more.now in
    let rg = c.args.right.gone.now in
    let left = keyed_kept c.args.memo.now.left in
    let right = g.R.RowsByKey.kept c.args.memo.now.right in
    let own : c.args.memo.now.left.columns.items ≡ lefts_of pairs = t.left_turns.kept_is.columns_are in
    let side : AreByKey (lefts_of pairs) lo c.args.memo.now.left.sets = t.left_turns.kept_is.by_key in
    let sorted : IsRowSet lo = t.left_turns.turned.old_sorted in
    let mid : List Row = missing_from lg lo in
    let stayed : AreByKey (lefts_of pairs) mid c.lost_lefts.new.lefts.sets = c.in_ok-gone.ensures.left_side lo sorted own side in
    let other = c.in_ok-turn_part.ensures.rows (rights_of pairs) ro rn t.right_turns in
    let middle : c.lost_lefts.new.lefts.columns.items ≡ lefts_of pairs = ap (λ v. v.items) c.in_ok-gone.ensures.columns ∙ own in
    let after = c.gained_lefts.new.lefts in
    record {
      left_is = record {
        columns_are = ap (λ v. v.items) c.in_ok-more.ensures.columns ∙ middle;
        by_key = subst (λ (l : List Row). AreByKey (lefts_of pairs) l after.sets) (sym (stays lo ln lm lg t.left_turns.turned).1.all) (c.in_ok-more.ensures.left_side mid (missing_sorted lg lo sorted) middle stayed);
      };
      right_is = other;
      few = t.left_turns.few;
    }
