use Rattle.std.proofs.Common.{length, arith}
use Rattle.report_print.specs.RunText.{stream_lines}
use Rattle.report_print.proofs.RunLoops.{none_yet, one_more, all_of}
use Rattle.report_print.proofs.run_lines.Ran.push_streams.Goals as goal

pub loop-stream-init : goal.loop-stream-init
loop-stream-init g c = none_yet c.args.self.now.valid.now.view c.args.self.now.net.now.books (stream_lines c.args.self.now.valid.now.view) c.args.text.now.items

pub loop-stream-preserved : goal.loop-stream-preserved
loop-stream-preserved g c =
    one_more c.args.self.now.valid.now.view c.args.self.now.net.now.books (stream_lines c.args.self.now.valid.now.view) c.args.text.now.items c.loop-stream.stream c.loop-stream.text.items c.push_stream.new.text.items
    c.in_ok-push_stream.ensures c.loop-stream.invariant

pub returns : goal.returns
returns g c =
    all_of c.args.self.now.valid.now.view c.args.self.now.net.now.books (stream_lines c.args.self.now.valid.now.view) c.args.text.now.items c.loop-stream.stream (length c.args.self.now.valid.now.view.streams) c.loop-stream.text.items
    (omega (arith, c.loop-stream-test.false, c.loop-stream.auto.stream-end, c.stream_count-stream-end.ensures)) c.loop-stream.invariant
