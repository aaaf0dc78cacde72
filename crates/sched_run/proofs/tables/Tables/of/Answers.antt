use Rattle.std.proofs.Common.{◌∙◌, List, ap, length, arith}
use Rattle.sched_run.specs.declared.lanes.Lane.{Lane}
use Rattle.sched_run.specs.declared.lanes.Taker.{Taker}
use Rattle.sched_run.proofs.LanesThere.{lanes_there, takers_there}
use Rattle.sched_run.proofs.tables.Tables.of.Goals as goal

pub heard_of-requires-clause-lanes : goal.heard_of-requires-clause-lanes
heard_of-requires-clause-lanes c = lanes_there c.args.valid.now.view c.as_slice-lanes.result.now c.known.ensures (c.as_slice-lanes.ensures.value ∙ c.requires.works.lanes_are)

pub readers_of-requires-clause-lanes : goal.readers_of-requires-clause-lanes
readers_of-requires-clause-lanes c = lanes_there c.args.valid.now.view c.as_slice-lanes.result.now c.known.ensures (c.as_slice-lanes.ensures.value ∙ c.requires.works.lanes_are)

pub logs_of-requires : goal.logs_of-requires
logs_of-requires c = lanes_there c.args.valid.now.view c.as_slice-lanes.result.now c.known.ensures (c.as_slice-lanes.ensures.value ∙ c.requires.works.lanes_are)

pub takers_of-requires-clause-takers : goal.takers_of-requires-clause-takers
takers_of-requires-clause-takers c = takers_there c.args.valid.now.view c.as_slice.result.now c.known.ensures (c.as_slice.ensures.value ∙ c.requires.works.takers_are)

pub takers_of-requires-clause-few : goal.takers_of-requires-clause-few
takers_of-requires-clause-few c =
    let lanes = ap (λ (l : List Lane). length l) c.as_slice-lanes.ensures.value in
    let takers = ap (λ (l : List Taker). length l) c.as_slice.ensures.value in
    omega (arith, lanes, takers, c.requires.works.as_many, c.requires.works.few)
