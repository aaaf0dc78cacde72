use Rattle.std.proofs.Common.{◌++◌, ◌∙◌, ap, arith}
use Rattle.topo_forms.specs.View.{replicas_of}
use Rattle.inbox.specs.Completeness.{held_count_at}
use Rattle.inbox.specs.Wiring.{wiring_of}
use Rattle.report_print.specs.RunText.{held_line}
use Rattle.report_print.proofs.RunLoops.{none_yet, one_more, all_of}
use Rattle.report_print.proofs.run_lines.Ran.push_held.Goals as goal

pub loop-replica-init : goal.loop-replica-init
loop-replica-init g c = none_yet c.args.self.now.valid.now.view c.args.self.now.net.now.books (λ given x r. held_line c.args.self.now.valid.now.view c.args.component r (held_count_at (wiring_of c.args.self.now.valid.now.view) x c.args.component r)) c.args.text.now.items

pub loop-replica-preserved : goal.loop-replica-preserved
loop-replica-preserved g c =
    one_more c.args.self.now.valid.now.view c.args.self.now.net.now.books (λ given x r. held_line c.args.self.now.valid.now.view c.args.component r (held_count_at (wiring_of c.args.self.now.valid.now.view) x c.args.component r)) c.args.text.now.items c.loop-replica.replica c.loop-replica.text.items c.push_held_line.new.text.items
    (λ given steps stand. c.in_ok-push_held_line.ensures ∙ ap (λ held. c.loop-replica.text.items ++ held_line c.args.self.now.valid.now.view c.args.component c.loop-replica.replica held) (c.held-held.ensures given steps stand)) c.loop-replica.invariant

pub returns : goal.returns
returns g c =
    all_of c.args.self.now.valid.now.view c.args.self.now.net.now.books (λ given x r. held_line c.args.self.now.valid.now.view c.args.component r (held_count_at (wiring_of c.args.self.now.valid.now.view) x c.args.component r)) c.args.text.now.items c.loop-replica.replica (replicas_of c.args.self.now.valid.now.view c.args.component) c.loop-replica.text.items
    (omega (arith, c.loop-replica-test.false, c.loop-replica.auto.replica-end, c.replicas-replica-end.ensures)) c.loop-replica.invariant
