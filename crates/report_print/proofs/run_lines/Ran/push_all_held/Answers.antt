use Rattle.std.proofs.Common.{length, arith}
use Rattle.report_print.specs.RunText.{held_lines}
use Rattle.report_print.proofs.RunLoops.{none_yet, one_more, all_of}
use Rattle.report_print.proofs.run_lines.Ran.push_all_held.Goals as goal

pub loop-component-init : goal.loop-component-init
loop-component-init g c = none_yet c.args.self.now.valid.now.view c.args.self.now.net.now.books (λ given x. held_lines c.args.self.now.valid.now.view x) c.args.text.now.items

pub loop-component-preserved : goal.loop-component-preserved
loop-component-preserved g c =
    one_more c.args.self.now.valid.now.view c.args.self.now.net.now.books (λ given x. held_lines c.args.self.now.valid.now.view x) c.args.text.now.items c.loop-component.component c.loop-component.text.items c.push_held.new.text.items
    c.in_ok-push_held.ensures c.loop-component.invariant

pub returns : goal.returns
returns g c =
    all_of c.args.self.now.valid.now.view c.args.self.now.net.now.books (λ given x. held_lines c.args.self.now.valid.now.view x) c.args.text.now.items c.loop-component.component (length c.args.self.now.valid.now.view.components) c.loop-component.text.items
    (omega (arith, c.loop-component-test.false, c.loop-component.auto.component-end, c.component_count-component-end.ensures)) c.loop-component.invariant
