use Rattle.std.proofs.Common.{◌∙◌, ◌++◌, ℕ, List, ap, sym}
use Rattle.std.proofs.lemmas.Fmt.{decimal_digit}
use Rattle.sched_run.proofs.pieces.push_number.Goals as goal

pub returns-then-number-lt10-clause-text : goal.returns-then-number-lt10-clause-text
returns-then-number-lt10-clause-text c = c.in_ok-push.ensures.items ∙ ap (λ (l : List ℕ). c.args.into.now.items ++ l) (sym (decimal_digit c.args.number c.if-number-lt10.true))
