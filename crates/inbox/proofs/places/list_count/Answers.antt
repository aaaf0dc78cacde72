use Rattle.std.proofs.Common.{◌<◌, length, arith}
use Rattle.topo_forms.specs.View.{stream_replicas}
use Rattle.inbox.proofs.PlacesMade.{few_senders, counted_more}
use Rattle.inbox.proofs.places.list_count.Goals as goal

pub loop-stream-preserved : goal.loop-stream-preserved
loop-stream-preserved c =
    let v = c.args.valid.now.view in
    let there : c.loop-stream.stream < length v.streams = omega (arith, c.loop-stream-test.true, c.stream_count-stream-end.ensures) in
    counted_more (stream_replicas v) c.loop-stream.stream c.loop-stream.count c.stream_replicas.result c.loop-stream.invariant c.stream_replicas.ensures
    (omega (arith, c.stream_replicas.ensures, few_senders v c.known.ensures c.loop-stream.stream there))
