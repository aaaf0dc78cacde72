use Rattle.std.proofs.Common.{Ok, sym, subst}
use Rattle.std.specs.Prelude.{◌&&◌}
use Rattle.blz_value.specs.Operators.{join_rows}
use Rattle.blz_value.specs.Sets.{set_of}
use Rattle.blz_value.proofs.Booleans.{and_true}
use Rattle.blz_set.proofs.Unions.{handed_on}
use Rattle.bloom_parts.specs.Turns.{TurnsTo}
use Rattle.bloom_parts.proofs.PartTurns.{join_turns, join_stands}
use Rattle.bloom_parts.proofs.Turning.{turned_into, into_fault, flagged}
use Rattle.bloom_parts.proofs.joins.join_sets.Goals as goal

pub returns-in_err-turn-in-true-true-clause-turned : goal.returns-in_err-turn-in-true-true-clause-turned
returns-in_err-turn-in-true-true-clause-turned c = λ lg rg lo ln ro rn changes.
    let pairs = c.args.pairs.now in
    let left = c.args.left.now in
    let right = c.args.right.now in
    let before = set_of (join_rows pairs lo ro) in
    let now = set_of (join_rows pairs ln rn) in
    let fault = c.in_err-turn-in-true-true.field-0.0 in
    let l = c.turning.ensures in
    let r = c.turning-in-true-true.ensures in
    let turns = join_turns pairs lg rg lo ln ro rn left right c.args.memo.now changes _ _ _ _ c.in-true-true.is-0 c.in-true-true.is-1 l.more l.gone r.more r.gone in
    subst (TurnsTo (left.kept && right.kept) before now) (sym (handed_on _ c.from_residual.result fault c.from_residual.ensures.1))
    (into_fault (left.kept && right.kept) before now fault (c.in_err-turn-in-true-true.ensures.rows lo ln ro rn turns))

pub returns-in_ok-turn-in-true-true-clause-turned : goal.returns-in_ok-turn-in-true-true-clause-turned
returns-in_ok-turn-in-true-true-clause-turned c = λ lg rg lo ln ro rn changes.
    let pairs = c.args.pairs.now in
    let left = c.args.left.now in
    let right = c.args.right.now in
    let before = set_of (join_rows pairs lo ro) in
    let now = set_of (join_rows pairs ln rn) in
    let is = c.in-true-true in
    let l = c.turning.ensures in
    let r = c.turning-in-true-true.ensures in
    let turns = join_turns pairs lg rg lo ln ro rn left right c.args.memo.now changes _ _ _ _ is.is-0 is.is-1 l.more l.gone r.more r.gone in
    let made = c.turned.ensures in
    flagged _ (left.kept && right.kept) before now (Ok c.turned.result) (sym (and_true left.kept right.kept is.is-0 is.is-1))
    (turned_into before now c.in_ok-turn-in-true-true.turn c.turned.result made.kept made.rows made.gone (changes.stands.few is.is-0 is.is-1) (c.in_ok-turn-in-true-true.ensures.rows lo ln ro rn turns))

pub returns-in_ok-turn-in-true-true-clause-kept : goal.returns-in_ok-turn-in-true-true-clause-kept
returns-in_ok-turn-in-true-true-clause-kept c = λ lg rg lo ln ro rn changes.
    let pairs = c.args.pairs.now in
    let left = c.args.left.now in
    let right = c.args.right.now in
    let l = c.turning.ensures in
    let r = c.turning-in-true-true.ensures in
    let turns = join_turns pairs lg rg lo ln ro rn left right c.args.memo.now changes _ _ _ _ c.in-true-true.is-0 c.in-true-true.is-1 l.more l.gone r.more r.gone in
    let made = c.in_ok-turn-in-true-true.ensures in
    join_stands pairs lg rg lo ln ro rn left right c.args.memo.now changes c.turn_join.new.memo made.left made.right (made.kept lo ln ro rn turns)
