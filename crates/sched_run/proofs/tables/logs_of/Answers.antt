use Rattle.std.proofs.Common.{◌+◌, ◌∙◌, ap, length, refl, sym, subst, arith}
use Rattle.std.proofs.lemmas.Option.{slice_get_read}
use Rattle.topo_forms.specs.Feeds.{Feed}
use Rattle.sched_run.specs.Code.Looking.{IsLane}
use Rattle.sched_run.specs.Code.Watch.{AreLanesBelow, port_place}
use Rattle.sched_run.proofs.TablesLemmas.{log_lanes_more, log_lanes_pass, logs_none, port_inside}
use Rattle.sched_run.proofs.tables.logs_of.Goals as goal
use Rattle.sched_run.proofs.tables.logs_of.Goals.{in-Order+in_ok-add, in_default}

pub loop-place-preserved : goal.loop-place-preserved
loop-place-preserved c =
    let v = c.args.valid.now.view in
    let lanes = c.args.lanes.now in
    let i = c.loop-place.place in
    let lane = c.index-lanes-place.result in
    let at = slice_get_read lanes (length lanes) i lane refl c.loop-place-test.true c.index-lanes-place.is in
    let is : IsLane v lane = subst (IsLane v) (sym c.index-lanes-place.is) (c.requires i lane c.loop-place-test.true) in
    elim c.match-lane.branch [
      | in-Order+in_ok-add w ↦
          let own = subst (IsLane v) w.in-Order.is is in
          let port = ap (λ (f : Feed). f.port) w.feed.view_is in
          let at_port = w.port_place.ensures ∙ ap (port_place w.in-Order.component) port in
          log_lanes_more v lanes i c.loop-place.logs c.loop-place.invariant lane at _ w.port_place.result _ c.match-lane.logs w.in-Order.is at_port
          (let inside = port_inside v _ _ (length c.loop-place.logs) c.bounded.ensures own.is.there own.is.port c.loop-place.invariant.count in omega (arith, inside, at_port))
          (w.logs-is ∙ w.in_ok-add.ensures)
      | in_default w ↦ subst (AreLanesBelow v lanes (i + 1)) (sym w.logs-is) (log_lanes_pass v lanes i c.loop-place.logs c.loop-place.invariant lane at _ _ _ _ w.in_default.is)
    ]

pub add-requires : goal.add-requires
add-requires c =
    let v = c.args.valid.now.view in
    let lane = c.index-lanes-place.result in
    let is : IsLane v lane = subst (IsLane v) (sym c.index-lanes-place.is) (c.requires c.loop-place.place lane c.loop-place-test.true) in
    let own = subst (IsLane v) c.in-Order.is is in
    let port = ap (λ (f : Feed). f.port) c.feed.view_is in
    let inside = port_inside v _ _ (length c.loop-place.logs) c.bounded.ensures own.is.there own.is.port c.loop-place.invariant.count in
    let at_port = c.port_place.ensures ∙ ap (port_place c.in-Order.component) port in
    omega (arith, inside, at_port)

pub loop-place-init : goal.loop-place-init
loop-place-init c = logs_none c.args.valid.now.view c.args.lanes.now c.in_ok-logs.logs _ c.in_ok-logs.ensures (let many = c.component_count.ensures in omega (arith, many))
