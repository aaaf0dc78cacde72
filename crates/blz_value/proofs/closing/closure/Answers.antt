use Rattle.std.proofs.Common.{◌≡◌, ◌≢◌, sym, ◌∙◌, rules}
use Rattle.blz_value.specs.Closure.{grown, IsLeastClosed}
use Rattle.blz_value.proofs.Least.{reached-start, reached-grown, reached-closed, grown-smaller}
use Rattle.blz_value.proofs.Reached.{closure-is}
use Rattle.blz_value.proofs.closing.closure.Goals as goal

pub loop-more-init : goal.loop-more-init
loop-more-init c = reached-start c.args.start.bits c.args.fds.now

pub loop-more-preserved : goal.loop-more-preserved
loop-more-preserved c = rw c.grown-more.ensures (reached-grown c.args.start.bits c.args.fds.now c.loop-more.reached.bits c.loop-more.invariant)

pub loop-more-smaller : goal.loop-more-smaller
loop-more-smaller c =
    let adds : grown c.args.fds.now c.loop-more.reached.bits ≢ c.loop-more.reached.bits = search rules in
    rw c.grown-more.ensures (grown-smaller c.args.fds.now c.loop-more.reached.bits adds)

pub returns-then-eq-clause-least : goal.returns-then-eq-clause-least
returns-then-eq-clause-least c =
    let same : c.grown-more.result.bits ≡ c.loop-more.reached.bits = search rules in
    reached-closed c.args.start.bits c.args.fds.now c.loop-more.reached.bits c.loop-more.invariant (sym c.grown-more.ensures ∙ same)

pub returns-then-eq-clause-computed : goal.returns-then-eq-clause-computed
returns-then-eq-clause-computed c =
    let same : c.grown-more.result.bits ≡ c.loop-more.reached.bits = search rules in
    let least : IsLeastClosed c.args.start.bits c.args.fds.now c.loop-more.reached.bits = reached-closed c.args.start.bits c.args.fds.now c.loop-more.reached.bits c.loop-more.invariant (sym c.grown-more.ensures ∙ same) in
    closure-is c.args.start.bits c.args.fds.now c.loop-more.reached.bits least
