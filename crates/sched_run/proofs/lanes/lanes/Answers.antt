use Rattle.std.proofs.Common.{◌∙◌, ◌++◌, sym, ap, arith}
use Rattle.std.specs.List.{flat_map}
use Rattle.inbox.specs.Wiring.{wiring_of}
use Rattle.topo_forms.specs.View.{ends_of}
use Rattle.sched_run.specs.Made.{lanes_at}
use Rattle.sched_run.proofs.LanesLemmas.{streams_more, all_lanes_end}
use Rattle.sched_run.proofs.lanes.lanes.Goals as goal

pub loop-stream-preserved : goal.loop-stream-preserved
loop-stream-preserved c =
    let v = c.args.valid.now.view in
    c.in_ok-push_lanes_of.ensures
    ∙ ap (λ l. l ++ flat_map (lanes_at (wiring_of v) c.loop-stream.stream) (ends_of v c.loop-stream.stream)) c.loop-stream.invariant
    ∙ sym (streams_more (λ place. flat_map (lanes_at (wiring_of v) place.0) place.1.to) v.streams c.loop-stream.stream (omega (arith, c.loop-stream-test.true, c.stream_count-stream-end.ensures)))

pub returns : goal.returns
returns c =
    c.loop-stream.invariant
    ∙ all_lanes_end c.args.valid.now.view c.loop-stream.stream (omega (arith, c.loop-stream-test.false, c.stream_count-stream-end.ensures))
