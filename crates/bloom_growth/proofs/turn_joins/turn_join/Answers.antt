use Rattle.std.proofs.Common.{sym, subst, arith}
use Rattle.blz_value.specs.Operators.{join_rows}
use Rattle.blz_value.specs.Sets.{set_of}
use Rattle.blz_set.specs.Missing.{missing_from}
use Rattle.blz_set.specs.Pairs.{lefts_of, rights_of}
use Rattle.blz_set.proofs.Unions.{handed_on}
use Rattle.bloom_growth.specs.Turned.{TurnsInto}
use Rattle.bloom_growth.proofs.TurnJoins.{grows_on, joined_turned, counted_turn, lost_fault, gained_fault}
use Rattle.bloom_growth.proofs.turn_joins.turn_join.Goals as goal

pub returns-in_err-gone-clause-rows : goal.returns-in_err-gone-clause-rows
returns-in_err-gone-clause-rows g c = λ lo ln ro rn t.
    let pairs = c.args.pairs.now in
    let lm = c.args.left.more.now in
    let lg = c.args.left.gone.now in
    let rm = c.args.right.more.now in
    let rg = c.args.right.gone.now in
    let left = g.L.RowsByKey.kept c.args.memo.now.left in
    let right = g.R.RowsByKey.kept c.args.memo.now.right in
    let count = c.args.memo.now.count in
    let fault = c.in_err-gone.field-0.0 in
    subst (TurnsInto (set_of (join_rows pairs lo ro)) (set_of (join_rows pairs ln rn))) (sym (handed_on _ c.from_residual.result fault c.from_residual.ensures.1))
    (lost_fault pairs lo ln lm lg ro rn rm rg left right count t fault (c.in_err-gone.ensures.rows lo ln lm ro rn rm t.left_turns t.right_turns))

pub returns-in_err-more-clause-rows : goal.returns-in_err-more-clause-rows
returns-in_err-more-clause-rows g c = λ lo ln ro rn t.
    let pairs = c.args.pairs.now in
    let lm = c.args.left.more.now in
    let lg = c.args.left.gone.now in
    let rm = c.args.right.more.now in
    let rg = c.args.right.gone.now in
    let left = g.L.RowsByKey.kept c.args.memo.now.left in
    let right = g.R.RowsByKey.kept c.args.memo.now.right in
    let count = c.args.memo.now.count in
    let lefts = grows_on (lefts_of pairs) lo ln lm lg left (g.L.RowsByKey.kept c.lost_pairs.new.lefts) t.left_turns (c.in_ok-gone.ensures.left_side lo ln lm t.left_turns) in
    let rights = grows_on (rights_of pairs) ro rn rm rg right (g.R.RowsByKey.kept c.lost_pairs.new.rights) t.right_turns (c.in_ok-gone.ensures.right_side ro rn rm t.right_turns) in
    let fault = c.in_err-more.field-0.0 in
    subst (TurnsInto (set_of (join_rows pairs lo ro)) (set_of (join_rows pairs ln rn))) (sym (handed_on _ c.from_residual-in_err-more.result fault c.from_residual-in_err-more.ensures.1))
    (gained_fault pairs lo ln lm lg ro rn rm rg left right count t fault (c.in_err-more.ensures.rows (missing_from lg lo) ln (missing_from rg ro) rn lefts rights))

pub returns-then-len-saturating_sub-clause-rows : goal.returns-then-len-saturating_sub-clause-rows
returns-then-len-saturating_sub-clause-rows g c = λ lo ln ro rn t.
    let pairs = c.args.pairs.now in
    let lm = c.args.left.more.now in
    let lg = c.args.left.gone.now in
    let rm = c.args.right.more.now in
    let rg = c.args.right.gone.now in
    let left = g.L.RowsByKey.kept c.args.memo.now.left in
    let right = g.R.RowsByKey.kept c.args.memo.now.right in
    let count = c.args.memo.now.count in
    let lefts = grows_on (lefts_of pairs) lo ln lm lg left (g.L.RowsByKey.kept c.lost_pairs.new.lefts) t.left_turns (c.in_ok-gone.ensures.left_side lo ln lm t.left_turns) in
    let rights = grows_on (rights_of pairs) ro rn rm rg right (g.R.RowsByKey.kept c.lost_pairs.new.rights) t.right_turns (c.in_ok-gone.ensures.right_side ro rn rm t.right_turns) in
    let turned = joined_turned pairs lo ln lm lg ro rn rm rg left right count t c.in_ok-more.more c.in_ok-gone.gone (c.in_ok-more.ensures.rows (missing_from lg lo) ln (missing_from rg ro) rn lefts rights) (c.in_ok-gone.ensures.rows lo ln lm ro rn rm t.left_turns t.right_turns) in
    let counts = counted_turn (set_of (join_rows pairs lo ro)) (set_of (join_rows pairs ln rn)) c.in_ok-more.more c.in_ok-gone.gone turned in
    omega (arith, counts.0, counts.1, t.counted, c.len.ensures, c.len-2.ensures, c.saturating_sub-stay.ensures, c.saturating_sub.ensures, c.if-len-saturating_sub.true)

pub returns-clause-rows : goal.returns-clause-rows
returns-clause-rows g c = λ lo ln ro rn t.
    let pairs = c.args.pairs.now in
    let lm = c.args.left.more.now in
    let lg = c.args.left.gone.now in
    let rm = c.args.right.more.now in
    let rg = c.args.right.gone.now in
    let left = g.L.RowsByKey.kept c.args.memo.now.left in
    let right = g.R.RowsByKey.kept c.args.memo.now.right in
    let count = c.args.memo.now.count in
    let lefts = grows_on (lefts_of pairs) lo ln lm lg left (g.L.RowsByKey.kept c.lost_pairs.new.lefts) t.left_turns (c.in_ok-gone.ensures.left_side lo ln lm t.left_turns) in
    let rights = grows_on (rights_of pairs) ro rn rm rg right (g.R.RowsByKey.kept c.lost_pairs.new.rights) t.right_turns (c.in_ok-gone.ensures.right_side ro rn rm t.right_turns) in
    let turned = joined_turned pairs lo ln lm lg ro rn rm rg left right count t c.in_ok-more.more c.in_ok-gone.gone (c.in_ok-more.ensures.rows (missing_from lg lo) ln (missing_from rg ro) rn lefts rights) (c.in_ok-gone.ensures.rows lo ln lm ro rn rm t.left_turns t.right_turns) in
    let counts = counted_turn (set_of (join_rows pairs lo ro)) (set_of (join_rows pairs ln rn)) c.in_ok-more.more c.in_ok-gone.gone turned in
    (turned, omega (arith, counts.0, counts.1, t.counted, t.few, c.len.ensures, c.len-2.ensures, c.saturating_sub-stay.ensures, c.saturating_sub.ensures, c.if-len-saturating_sub.false))

pub returns-clause-kept : goal.returns-clause-kept
returns-clause-kept g c = λ lo ln ro rn t.
    let pairs = c.args.pairs.now in
    let lm = c.args.left.more.now in
    let lg = c.args.left.gone.now in
    let rm = c.args.right.more.now in
    let rg = c.args.right.gone.now in
    let left = g.L.RowsByKey.kept c.args.memo.now.left in
    let right = g.R.RowsByKey.kept c.args.memo.now.right in
    let count = c.args.memo.now.count in
    let lefts = grows_on (lefts_of pairs) lo ln lm lg left (g.L.RowsByKey.kept c.lost_pairs.new.lefts) t.left_turns (c.in_ok-gone.ensures.left_side lo ln lm t.left_turns) in
    let rights = grows_on (rights_of pairs) ro rn rm rg right (g.R.RowsByKey.kept c.lost_pairs.new.rights) t.right_turns (c.in_ok-gone.ensures.right_side ro rn rm t.right_turns) in
    let turned = joined_turned pairs lo ln lm lg ro rn rm rg left right count t c.in_ok-more.more c.in_ok-gone.gone (c.in_ok-more.ensures.rows (missing_from lg lo) ln (missing_from rg ro) rn lefts rights) (c.in_ok-gone.ensures.rows lo ln lm ro rn rm t.left_turns t.right_turns) in
    let counts = counted_turn (set_of (join_rows pairs lo ro)) (set_of (join_rows pairs ln rn)) c.in_ok-more.more c.in_ok-gone.gone turned in
    record {
      left_is = c.in_ok-more.ensures.left_side (missing_from lg lo) ln lefts;
      right_is = c.in_ok-more.ensures.right_side (missing_from rg ro) rn rights;
      counted = omega (arith, counts.0, counts.1, t.counted, c.len.ensures, c.len-3.ensures, c.saturating_sub-stay.ensures);
      few = omega (arith, counts.0, counts.1, t.counted, t.few, c.len.ensures, c.len-2.ensures, c.saturating_sub-stay.ensures, c.saturating_sub.ensures, c.if-len-saturating_sub.false);
    }
