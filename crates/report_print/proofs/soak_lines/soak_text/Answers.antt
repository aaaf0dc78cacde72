use Rattle.std.proofs.Common.{◌∙◌, ap}
use Rattle.sched_net.specs.Net.{execution_in}
use Rattle.report_print.specs.Code.Runs.{soak_after}
use Rattle.report_print.proofs.soak_lines.soak_text.Goals as goal

pub returns : goal.returns
returns g c given steps stand =
    c.in_ok-push_soak.ensures given steps stand ∙ ap (λ text. soak_after text c.args.batches c.args.valid.now.view c.args.labels.now given (execution_in stand)) c.new-text.ensures.items
