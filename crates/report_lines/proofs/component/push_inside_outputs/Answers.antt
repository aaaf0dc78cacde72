-- The lines of one output more.
use Rattle.report_lines.specs.Code.Components.{inside_output}
use Rattle.report_lines.proofs.Turns.{one_more}
use Rattle.report_lines.proofs.component.push_inside_outputs.Goals as goal

pub loop-output-preserved : goal.loop-output-preserved
loop-output-preserved c = one_more (inside_output c.args.report.now c.args.component) c.loop-output.output _ _ _ c.in_ok-push_inside_output.ensures c.loop-output.invariant
