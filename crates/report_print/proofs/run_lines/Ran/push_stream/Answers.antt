use Rattle.std.proofs.Common.{arith}
use Rattle.topo_forms.specs.View.{stream_replicas}
use Rattle.report_print.specs.RunText.{contents_lines}
use Rattle.report_print.proofs.RunLoops.{none_yet, one_more, all_of}
use Rattle.report_print.proofs.run_lines.Ran.push_stream.Goals as goal

pub loop-replica-init : goal.loop-replica-init
loop-replica-init g c = none_yet c.args.self.now.valid.now.view c.args.self.now.net.now.books (λ given x. contents_lines c.args.self.now.valid.now.view given x c.args.stream) c.args.text.now.items

pub loop-replica-preserved : goal.loop-replica-preserved
loop-replica-preserved g c =
    one_more c.args.self.now.valid.now.view c.args.self.now.net.now.books (λ given x. contents_lines c.args.self.now.valid.now.view given x c.args.stream) c.args.text.now.items c.loop-replica.replica c.loop-replica.text.items c.push_contents.new.text.items
    c.in_ok-push_contents.ensures c.loop-replica.invariant

pub returns : goal.returns
returns g c =
    all_of c.args.self.now.valid.now.view c.args.self.now.net.now.books (λ given x. contents_lines c.args.self.now.valid.now.view given x c.args.stream) c.args.text.now.items c.loop-replica.replica (stream_replicas c.args.self.now.valid.now.view c.args.stream) c.loop-replica.text.items
    (omega (arith, c.loop-replica-test.false, c.loop-replica.auto.replica-end, c.stream_replicas-replica-end.ensures)) c.loop-replica.invariant
