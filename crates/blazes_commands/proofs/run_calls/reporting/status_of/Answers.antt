use Rattle.sched_net.specs.Net.{execution_in}
use Rattle.blazes_commands.proofs.Runs.ContentsLemmas.{complete_status, left_status}
use Rattle.blazes_commands.proofs.run_calls.reporting.status_of.Goals as goal

pub returns-then-is_complete : goal.returns-then-is_complete
returns-then-is_complete g c given steps stand =
    complete_status c.args.net.now.valid.now.view given (execution_in stand) c.is_complete.result (c.is_complete.ensures.complete given steps stand) c.if-is_complete.true

pub returns-else-is_complete : goal.returns-else-is_complete
returns-else-is_complete g c given steps stand =
    left_status c.args.net.now.valid.now.view given (execution_in stand) c.is_complete.result (c.is_complete.ensures.complete given steps stand) c.if-is_complete.false
