use Rattle.std.proofs.Common.{◌≡◌, ◌+◌, ◌-◌, ◌∙◌, sym, suc, arith, None, Some, append_assoc, append-nil}
use Rattle.blz_value.specs.Regions.{next_by}
use Rattle.blz_value.proofs.regions.walk.Goals as goal

pub returns-in_default : goal.returns-in_default
returns-in_default c =
    let one_more : c.args.count - c.loop-turn._turn ≡ suc (c.args.count - (c.loop-turn._turn + 1)) = omega arith in
    let none : next_by c.args.feeding.now c.args.sets.now c.args.count c.loop-turn.done ≡ None = sym c.next.ensures ∙ c.in_default.is in
    let kept = rw one_more at c.loop-turn.invariant in
    let kept' = rw none at kept in
    sym (append-nil c.loop-turn.regions.items) ∙ kept'

pub loop-turn-preserved : goal.loop-turn-preserved
loop-turn-preserved c =
    let one_more : c.args.count - c.loop-turn._turn ≡ suc (c.args.count - (c.loop-turn._turn + 1)) = omega arith in
    let some : next_by c.args.feeding.now c.args.sets.now c.args.count c.loop-turn.done ≡ Some c.in-Some.c = sym c.next.ensures ∙ c.in-Some.is in
    let kept = rw one_more at c.loop-turn.invariant in
    let kept' = rw some at kept in
    rw (c.in_ok-push.ensures.items, append_assoc, c.set_at-here.ensures) kept'
