use Rattle.std.proofs.Common.{◌≡◌, ◌∙◌, ◌++◌, sym, subst, ap, arith}
use Rattle.std.specs.Prelude.{OnOk}
use Rattle.std.specs.List.{flat_map}
use Rattle.blz_value.specs.NumberSets.{below}
use Rattle.blz_value.proofs.Ranges.{flat_below_more}
use Rattle.inbox.specs.Wiring.{wiring_of}
use Rattle.sched_run.specs.Made.{instance_lanes}
use Rattle.sched_run.proofs.LanesLemmas.{order_end, free_end, behind_more}
use Rattle.sched_run.proofs.lanes.push_lanes_at.Goals as goal

pub returns-then-is_order : goal.returns-then-is_order
returns-then-is_order c =
    let v = c.args.valid.now.view in
    subst (λ lanes. OnOk c.push_orders.result (c.push_orders.new.into.items ≡ c.args.into.now.items ++ lanes)) (order_end v c.args.stream c.args.component c.args.port c.known.ensures c.requires.component (sym c.is_order.ensures ∙ c.if-is_order.true)) c.push_orders.ensures

pub loop-replica-preserved : goal.loop-replica-preserved
loop-replica-preserved c =
    let v = c.args.valid.now.view in
    let lanes = instance_lanes (wiring_of v) c.args.stream c.args.component c.args.port in
    behind_more c.args.into.now.items (flat_map lanes (below c.loop-replica.replica)) (lanes c.loop-replica.replica) _ c.loop-replica.into.items _ c.loop-replica.invariant c.in_ok-push_deliveries.ensures (flat_below_more lanes c.loop-replica.replica)

pub returns : goal.returns
returns c =
    c.loop-replica.invariant
    ∙ ap (λ l. c.args.into.now.items ++ l) (free_end c.args.valid.now.view c.args.stream c.args.component c.args.port c.loop-replica.replica c.known.ensures c.requires.component (sym c.is_order.ensures ∙ c.if-is_order.false) (omega (arith, c.loop-replica-test.false, c.loop-replica.auto.replica-end, c.replicas-replica-end.ensures)))
