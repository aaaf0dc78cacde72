use Rattle.std.proofs.Common.{map, arith}
use Rattle.topo_forms.specs.View.{stream_replicas}
use Rattle.report_lines.specs.Lines.{word_text}
use Rattle.report_print.specs.SoakText.{count_word}
use Rattle.report_print.proofs.RunLoops.{has_none, has_more, has_all}
use Rattle.report_print.proofs.run_lines.Ran.push_counts.Goals as goal

pub loop-replica-init : goal.loop-replica-init
loop-replica-init g c = has_none c.args.self.now.valid.now.view c.args.self.now.net.now.books (λ given x. count_word c.args.self.now.valid.now.view given x c.args.stream) (map word_text c.args.words.now.items)

pub loop-replica-preserved : goal.loop-replica-preserved
loop-replica-preserved g c =
    has_more c.args.self.now.valid.now.view c.args.self.now.net.now.books (λ given x. count_word c.args.self.now.valid.now.view given x c.args.stream) (map word_text c.args.words.now.items) c.loop-replica.replica (map word_text c.loop-replica.words.items) (map word_text c.push_count.new.words.items)
    c.in_ok-push_count.ensures c.loop-replica.invariant

pub returns : goal.returns
returns g c =
    has_all c.args.self.now.valid.now.view c.args.self.now.net.now.books (λ given x. count_word c.args.self.now.valid.now.view given x c.args.stream) (map word_text c.args.words.now.items) c.loop-replica.replica (stream_replicas c.args.self.now.valid.now.view c.args.stream) (map word_text c.loop-replica.words.items)
    (omega (arith, c.loop-replica-test.false, c.loop-replica.auto.replica-end, c.stream_replicas-replica-end.ensures)) c.loop-replica.invariant
