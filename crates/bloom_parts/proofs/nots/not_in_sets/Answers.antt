use Rattle.std.proofs.Common.{Ok, ap, sym, subst, arith}
use Rattle.blz_value.specs.Operators.{notin_rows}
use Rattle.blz_value.specs.Sets.{set_of}
use Rattle.blz_set.proofs.Unions.{handed_on}
use Rattle.bloom_growth.proofs.TurnNotIns.{few_notin}
use Rattle.bloom_parts.specs.Turns.{TurnsTo}
use Rattle.bloom_parts.proofs.PartTurns.{notin_turns, notin_stands}
use Rattle.bloom_parts.proofs.Turning.{turned_of, turned_into, into_fault, flagged}
use Rattle.bloom_parts.proofs.nots.not_in_sets.Goals as goal

pub returns-in_err-turn-clause-turned : goal.returns-in_err-turn-clause-turned
returns-in_err-turn-clause-turned c = λ rg lo ln ro rn changes.
    let pairs = c.args.pairs.now in
    let left = c.args.left.now in
    let right = c.args.right.now in
    let before = set_of (notin_rows pairs lo ro) in
    let now = set_of (notin_rows pairs ln rn) in
    let fault = c.in_err-turn.field-0.0 in
    let l = c.turning.ensures in
    let r = c.turning-then-left.ensures in
    let turns = notin_turns pairs rg lo ln ro rn left right c.args.memo.now changes _ _ _ _ c.if-left.true c.requires.kept l.more l.gone r.more r.gone in
    subst (TurnsTo left.kept before now) (sym (handed_on _ c.from_residual.result fault c.from_residual.ensures.1)) (into_fault left.kept before now fault (c.in_err-turn.ensures.rows lo ln ro rn turns))

pub returns-in_ok-turn-clause-turned : goal.returns-in_ok-turn-clause-turned
returns-in_ok-turn-clause-turned c = λ rg lo ln ro rn changes.
    let pairs = c.args.pairs.now in
    let left = c.args.left.now in
    let right = c.args.right.now in
    let before = set_of (notin_rows pairs lo ro) in
    let now = set_of (notin_rows pairs ln rn) in
    let l = c.turning.ensures in
    let r = c.turning-then-left.ensures in
    let turns = notin_turns pairs rg lo ln ro rn left right c.args.memo.now changes _ _ _ _ c.if-left.true c.requires.kept l.more l.gone r.more r.gone in
    let made = c.turned.ensures in
    let few = (turned_of lo ln left changes.left_turned c.if-left.true).1 in
    flagged _ left.kept before now (Ok c.turned.result) (sym c.if-left.true)
    (turned_into before now c.in_ok-turn.turn c.turned.result made.kept made.rows made.gone (omega (arith, few, few_notin pairs lo ro)) (c.in_ok-turn.ensures.rows lo ln ro rn turns))

pub returns-in_ok-turn-clause-kept : goal.returns-in_ok-turn-clause-kept
returns-in_ok-turn-clause-kept c = λ rg lo ln ro rn changes.
    let pairs = c.args.pairs.now in
    let left = c.args.left.now in
    let right = c.args.right.now in
    let l = c.turning.ensures in
    let r = c.turning-then-left.ensures in
    let turns = notin_turns pairs rg lo ln ro rn left right c.args.memo.now changes _ _ _ _ c.if-left.true c.requires.kept l.more l.gone r.more r.gone in
    let made = c.in_ok-turn.ensures in
    notin_stands pairs rg lo ln ro rn left right c.args.memo.now changes c.turn_notin.new.memo (ap (λ v. v.items) made.left) made.right (made.kept lo ln ro rn turns)
