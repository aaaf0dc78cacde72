-- The lines of one port more.
use Rattle.report_lines.specs.Code.Components.{port_lines}
use Rattle.report_lines.proofs.Turns.{one_more}
use Rattle.report_lines.proofs.component.push_path_lines.Goals as goal

pub loop-port-preserved : goal.loop-port-preserved
loop-port-preserved c = one_more (port_lines c.args.report.now c.args.component) c.loop-port.port _ _ _ c.in_ok-push_port_lines.ensures c.loop-port.invariant
