-- The lines of one output more.
use Rattle.report_lines.specs.Code.Components.{outside_output}
use Rattle.report_lines.proofs.Turns.{one_more}
use Rattle.report_lines.proofs.component.push_outside_outputs.Goals as goal

pub loop-output-preserved : goal.loop-output-preserved
loop-output-preserved c = one_more (outside_output c.args.report.now c.args.component) c.loop-output.output _ _ _ c.in_ok-push_outside_output.ensures c.loop-output.invariant
