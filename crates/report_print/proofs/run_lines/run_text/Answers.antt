use Rattle.std.proofs.Common.{◌∙◌, ap}
use Rattle.sched_net.specs.Net.{execution_in}
use Rattle.report_print.specs.Code.Runs.{run_after}
use Rattle.report_print.proofs.run_lines.run_text.Goals as goal

pub returns : goal.returns
returns g c given steps stand =
    c.in_ok-push_run.ensures given steps stand ∙ ap (λ text. run_after text c.args.valid.now.view given (execution_in stand)) c.new-text.ensures.items
