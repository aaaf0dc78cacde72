use Rattle.std.proofs.Common.{◌∙◌, ◌++◌, List, ap, arith}
use Rattle.std.specs.List.{flat_map}
use Rattle.std.proofs.lemmas.List.{take_all}
use Rattle.topo_forms.specs.View.{End, ends_of}
use Rattle.inbox.specs.Wiring.{wiring_of}
use Rattle.sched_run.specs.Made.{lanes_at}
use Rattle.sched_run.proofs.LanesLemmas.{end_there, lanes_more}
use Rattle.sched_run.proofs.lanes.push_lanes_of.Goals as goal

pub push_lanes_at-requires-clause-component : goal.push_lanes_at-requires-clause-component
push_lanes_at-requires-clause-component c =
    end_there c.args.valid.now.view c.args.stream c.loop-n.n c.to-component.result.0 c.to-component.result.1 c.known.ensures c.requires.stream (omega (arith, c.loop-n-test.true, c.to_count-n-end.ensures)) c.to-component.ensures

pub loop-n-preserved : goal.loop-n-preserved
loop-n-preserved c =
    let v = c.args.valid.now.view in
    lanes_more (lanes_at (wiring_of v) c.args.stream) (ends_of v c.args.stream) c.loop-n.n c.to-component.result c.args.into.now.items c.loop-n.into.items c.push_lanes_at.new.into.items (omega (arith, c.loop-n-test.true, c.to_count-n-end.ensures)) c.to-component.ensures c.loop-n.invariant
    c.in_ok-push_lanes_at.ensures

pub returns : goal.returns
returns c =
    let v = c.args.valid.now.view in
    c.loop-n.invariant ∙ ap (λ (ends : List End). c.args.into.now.items ++ flat_map (lanes_at (wiring_of v) c.args.stream) ends) (take_all c.loop-n.n (ends_of v c.args.stream) (omega (arith, c.loop-n-test.false, c.to_count-n-end.ensures)))
