use Rattle.std.proofs.Common.{◌∙◌, arith, length}
use Rattle.witness_check.specs.Difference.{stream_contents}
use Rattle.witness_check.proofs.Readings.{one_more, all_of, places_read}
use Rattle.witness_check.proofs.snapshot.take.Goals as goal

pub loop-stream-preserved : goal.loop-stream-preserved
loop-stream-preserved g c =
    let v = c.args.valid.now.view in
    one_more v c.args.net.now.books (stream_contents v) c.loop-stream.stream c.loop-stream.streams.items c.push.new.self.items c.in_ok-stream_contents.field-0 c.in_ok-push.ensures.items c.in_ok-stream_contents.ensures c.loop-stream.invariant

pub returns-clause-contents : goal.returns-clause-contents
returns-clause-contents g c given steps stand =
    let v = c.args.valid.now.view in
    c.from_vec.ensures
    ∙ all_of v c.args.net.now.books (stream_contents v) c.loop-stream.stream (length v.streams) c.loop-stream.streams.items
    (omega (arith, c.loop-stream-test.false, c.loop-stream.auto.stream-end, c.stream_count-stream-end.ensures)) c.loop-stream.invariant given steps stand

pub returns-clause-places : goal.returns-clause-places
returns-clause-places g c = places_read c.args.valid.now.view c.args.net.now.books c.from_vec.result c.requires.runs (returns-clause-contents g c)
