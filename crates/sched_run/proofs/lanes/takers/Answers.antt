use Rattle.std.proofs.Common.{◌∙◌, ◌++◌, sym, ap, arith}
use Rattle.blz_value.proofs.Ranges.{flat_below_more}
use Rattle.inbox.specs.Wiring.{wiring_of}
use Rattle.sched_run.specs.Made.{takers_at}
use Rattle.sched_run.proofs.LanesLemmas.{all_takers_end}
use Rattle.sched_run.proofs.lanes.takers.Goals as goal

pub loop-component-preserved : goal.loop-component-preserved
loop-component-preserved c =
    c.in_ok-push_takers.ensures
    ∙ ap (λ l. l ++ takers_at (wiring_of c.args.valid.now.view) c.loop-component.component) c.loop-component.invariant
    ∙ sym (flat_below_more (takers_at (wiring_of c.args.valid.now.view)) c.loop-component.component)

pub returns : goal.returns
returns c =
    c.loop-component.invariant
    ∙ all_takers_end c.args.valid.now.view c.loop-component.component (omega (arith, c.loop-component-test.false, c.loop-component.auto.component-end, c.component_count-component-end.ensures))
