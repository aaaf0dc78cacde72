-- The line of one path more.
use Rattle.report_lines.specs.Code.Components.{path_line}
use Rattle.report_lines.proofs.Turns.{one_more}
use Rattle.report_lines.proofs.component.push_port_lines.Goals as goal

pub loop-output-preserved : goal.loop-output-preserved
loop-output-preserved c = one_more (path_line c.args.report.now c.args.component c.args.port) c.loop-output.output _ _ _ c.in_ok-push_path_line.ensures c.loop-output.invariant
