use Rattle.why_trace.proofs.OpeningAgain.{no_memory}
use Rattle.why_trace.proofs.trial.opened.Goals as goal

pub unreachable-requires-in-Err-NoShell : goal.unreachable-requires-in-Err-NoShell
unreachable-requires-in-Err-NoShell g c =
    let is = no_memory c.args.valid.now.view (λ b. (goal.Component-dyn g (b.vtable, b.value)).kind b.value) c.args.bench.now.items c.open.result c.in-Err-NoShell.field-0 c.in-Err-NoShell.is c.open.ensures.answer c.requires.opens in
    let other = c.in-Err-NoShell.field-0-is in
    cc
