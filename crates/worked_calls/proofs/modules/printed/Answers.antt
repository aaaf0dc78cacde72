use Rattle.worked_calls.proofs.modules.printed.Goals as goal

pub returns : goal.returns
returns c = (c.in_ok-checked.checked.form, c.in_ok-checked.ensures, c.in_ok-print.ensures.text)
