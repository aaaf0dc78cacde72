use Rattle.std.proofs.Common.{◌++◌, ◌∙◌, false, ap, sym}
use Rattle.inbox.specs.Completeness.{left_count}
use Rattle.inbox.specs.Wiring.{wiring_of}
use Rattle.sched_net.specs.Net.{execution_in}
use Rattle.report_print.specs.RunText.{end_lines}
use Rattle.report_print.proofs.run_lines.Ran.push_end.Goals as goal

pub returns-then-is_complete : goal.returns-then-is_complete
returns-then-is_complete g c given steps stand =
    c.in_ok-push_line.ensures
    ∙ ap (λ t. c.args.text.now.items ++ end_lines t (left_count (wiring_of c.args.self.now.valid.now.view) given (execution_in stand))) (sym c.if-is_complete.true ∙ c.is_complete.ensures given steps stand)

pub returns : goal.returns
returns g c given steps stand =
    c.in_ok-push_incomplete.ensures
    ∙ ap (λ left. c.args.text.now.items ++ end_lines false left) (c.left.ensures given steps stand)
    ∙ ap (λ t. c.args.text.now.items ++ end_lines t (left_count (wiring_of c.args.self.now.valid.now.view) given (execution_in stand))) (sym c.if-is_complete.false ∙ c.is_complete.ensures given steps stand)
