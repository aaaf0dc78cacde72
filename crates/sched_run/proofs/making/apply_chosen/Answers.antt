use Rattle.std.proofs.Common.{◌∙◌, ap, sym}
use Rattle.sched_run.specs.Code.Works.{work_event}
use Rattle.sched_run.proofs.MakingApplies.{chosen_fails, chosen_there, says_twice}
use Rattle.sched_run.proofs.MakingWorks.{goes_on, goes_there, takes}
use Rattle.sched_run.proofs.making.apply_chosen.Goals as goal

pub apply-requires-clause-legal : goal.apply-requires-clause-legal
apply-requires-clause-legal g c = goes_on _ _ _ _ _ c.known.ensures (work_event c.args.work.now) c.requires.due

pub returns-in_err-apply-clause-applies : goal.returns-in_err-apply-clause-applies
returns-in_err-apply-clause-applies g c =
    chosen_fails _ _ _ _ _ _ _ c.apply.new.made c.args.number (work_event c.args.work.now) _ c.apply.result c.from_residual.result c.in_err-apply.field-0.0 c.apply.ensures.applies c.in_err-apply.was c.from_residual.ensures.1

pub apply-requires-then-says_again-clause-legal : goal.apply-requires-then-says_again-clause-legal
apply-requires-then-says_again-clause-legal g c =
    goes_there _ _ (ap (λ valid. valid.now.view) c.apply.ensures.valid) _ _ c.apply.ensures.loaded _ _ _ _ _ _ c.known.ensures (work_event c.args.work.now) c.requires.due c.apply.result c.in_ok-apply.field-0 c.apply.ensures.applies c.in_ok-apply.was c.in_ok-apply.ensures.events (takes c.args.work.now ∙ sym c.is_take.ensures ∙ c.if-not-is_take.true)

pub returns-then-says_again-clause-applies : goal.returns-then-says_again-clause-applies
returns-then-says_again-clause-applies g c =
    chosen_there _ _ (ap (λ valid. valid.now.view) c.apply.ensures.valid) _ _ c.apply.ensures.loaded _ _ _ _ _ c.apply.new.made c.args.number (work_event c.args.work.now) _ _ _ c.apply.result c.apply-then-says_again.result c.in_ok-apply.field-0 c.apply.ensures.applies c.in_ok-apply.was c.in_ok-apply.ensures.events
    (says_twice c.args.number (work_event c.args.work.now) (takes c.args.work.now ∙ sym c.is_take.ensures ∙ c.if-not-is_take.true) (sym c.says_again.ensures ∙ c.if-says_again.true)) c.apply-then-says_again.ensures.applies
