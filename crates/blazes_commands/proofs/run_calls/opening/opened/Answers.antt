use Rattle.blazes_commands.proofs.Runs.OpeningLemmas.{opens, opens_not}
use Rattle.blazes_commands.proofs.run_calls.opening.opened.Goals as goal

pub returns-in-Ok-clause-gives : goal.returns-in-Ok-clause-gives
returns-in-Ok-clause-gives g c =
    opens c.args.valid.now.view (λ b. (goal.Component-dyn g (b.vtable, b.value)).kind b.value) c.args.bench.now.items c.in-Ok.ensures.answer

pub returns-in_ok-opening_refusal-in-Err-clause-gives : goal.returns-in_ok-opening_refusal-in-Err-clause-gives
returns-in_ok-opening_refusal-in-Err-clause-gives g c =
    opens_not c.args.valid.now.view (λ b. (goal.Component-dyn g (b.vtable, b.value)).kind b.value) c.args.bench.now.items c.open.result c.in-Err.fault c.in_ok-opening_refusal-in-Err.field-0 c.stop_at.result
    c.in-Err.is c.open.ensures.answer c.in_ok-opening_refusal-in-Err.ensures c.stop_at.ensures
