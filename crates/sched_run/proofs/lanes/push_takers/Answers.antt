use Rattle.std.proofs.Common.{◌∙◌, ◌++◌, ◌∷◌, [], map, sym, ap, arith}
use Rattle.blz_value.specs.NumberSets.{below}
use Rattle.blz_value.proofs.Ranges.{map_below_more}
use Rattle.sched_run.specs.declared.lanes.Taker.{Taker}
use Rattle.sched_run.proofs.LanesLemmas.{takers_end, none_end, behind_more}
use Rattle.sched_run.proofs.lanes.push_takers.Goals as goal

pub returns-then-not-is_order : goal.returns-then-not-is_order
returns-then-not-is_order c = none_end c.args.valid.now.view c.args.component c.args.into.now.items c.known.ensures c.requires (sym c.is_order.ensures ∙ c.if-not-is_order.true)

pub loop-replica-preserved : goal.loop-replica-preserved
loop-replica-preserved c =
    let make : _ → Taker = λ replica. record { component = c.args.component; replica = replica } in
    behind_more c.args.into.now.items (map make (below c.loop-replica.replica)) (make c.loop-replica.replica ∷ []) _ c.loop-replica.into.items _ c.loop-replica.invariant c.in_ok-push.ensures.items (map_below_more make c.loop-replica.replica)

pub returns : goal.returns
returns c =
    c.loop-replica.invariant
    ∙ ap (λ l. c.args.into.now.items ++ l) (takers_end c.args.valid.now.view c.args.component c.loop-replica.replica c.known.ensures c.requires (sym c.is_order.ensures ∙ c.if-not-is_order.false) (omega (arith, c.loop-replica-test.false, c.loop-replica.auto.replica-end, c.replicas-replica-end.ensures)))
