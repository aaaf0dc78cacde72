use Rattle.std.proofs.Common.{ap, refl}
use Rattle.sched_run.specs.Code.Works.{work_event}
use Rattle.sched_run.proofs.MakingTurns.{chosen_is, longer_made, ready_on, turn_fails, turn_made}
use Rattle.sched_run.proofs.MakingWorks.{books_run, due_found, may_look_on, shows_still_on}
use Rattle.sched_run.proofs.making.Making.turn.Goals as goal

pub apply_chosen-requires-clause-due : goal.apply_chosen-requires-clause-due
apply_chosen-requires-clause-due g c = due_found _ _ _ _ _ _ c.work_at-work.result c.requires.goes c.work_at-work.ensures.numbered

pub returns-in_err-apply_chosen-clause-turns : goal.returns-in_err-apply_chosen-clause-turns
returns-in_err-apply_chosen-clause-turns g c =
    turn_fails _ _ _ _ _ _ c.args.self.now c.args.self.now c.apply_chosen.new.made c.next_number-number.result c.next_number-number.new.self (work_event c.work_at-work.result)
    (chosen_is _ _ c.args.self.now.watch.works _ c.next_number-number.result c.total-total.result c.args.self.now.draws c.next_number-number.new.self c.work_at-work.result c.requires.ready.works c.requires.ready.shown c.work_at-work.ensures.numbered refl c.total-total.ensures c.next_number-number.ensures.number c.next_number-number.ensures.state)
    c.next_number-number.ensures.number c.next_number-number.ensures.state c.apply_chosen.result c.apply_chosen.ensures.applies _ _ _ c.from_residual.result c.in_err-apply_chosen.field-0.0 c.requires.ready.written c.in_err-apply_chosen.was c.from_residual.ensures.1

pub look_after-requires-clause-runs : goal.look_after-requires-clause-runs
look_after-requires-clause-runs g c =
    books_run _ _ (ap (λ valid. valid.now.view) c.apply_chosen.ensures.valid) _ _ _ _ _ _ _ _ c.apply_chosen.result c.apply_chosen.ensures.applies c.in_ok-apply_chosen.field-0 c.in_ok-apply_chosen.was c.requires.goes

pub look_after-requires-clause-may : goal.look_after-requires-clause-may
look_after-requires-clause-may g c =
    may_look_on _ _ (ap (λ valid. valid.now.view) c.apply_chosen.ensures.valid) _ _ _ _ _ _ _ _ c.next_number-number.result c.work_at-work.result c.args.self.now.watch.works c.apply_chosen.result c.apply_chosen.ensures.applies c.in_ok-apply_chosen.field-0 c.in_ok-apply_chosen.was c.known.ensures c.requires.goes
    c.work_at-work.ensures.numbered c.in_ok-apply_chosen.ensures.events c.requires.ready.works c.requires.ready.shown

pub look_after-requires-clause-rest : goal.look_after-requires-clause-rest
look_after-requires-clause-rest g c =
    shows_still_on _ _ (ap (λ valid. valid.now.view) c.apply_chosen.ensures.valid) _ _ _ _ _ _ _ _ c.next_number-number.result c.work_at-work.result c.args.self.now.watch.works c.apply_chosen.result c.apply_chosen.ensures.applies c.in_ok-apply_chosen.field-0 c.in_ok-apply_chosen.was c.known.ensures c.requires.goes
    c.work_at-work.ensures.numbered c.in_ok-apply_chosen.ensures.events c.requires.ready.works c.requires.ready.shown

pub returns-clause-turns : goal.returns-clause-turns
returns-clause-turns g c =
    turn_made _ _ _ _ _ _ c.args.self.now _ c.apply_chosen.new.made c.next_number-number.result c.next_number-number.new.self (work_event c.work_at-work.result)
    (chosen_is _ _ c.args.self.now.watch.works _ c.next_number-number.result c.total-total.result c.args.self.now.draws c.next_number-number.new.self c.work_at-work.result c.requires.ready.works c.requires.ready.shown c.work_at-work.ensures.numbered refl c.total-total.ensures c.next_number-number.ensures.number c.next_number-number.ensures.state)
    c.next_number-number.ensures.number c.next_number-number.ensures.state c.apply_chosen.result c.apply_chosen.ensures.applies c.in_ok-apply_chosen.field-0 c.in_ok-apply_chosen.was refl refl c.in_ok-apply_chosen.ensures.events

pub returns-clause-ready : goal.returns-clause-ready
returns-clause-ready g c = ready_on _ _ (ap (λ valid. valid.now.view) c.apply_chosen.ensures.valid) _ _ c.in_ok-look_after.ensures.works c.in_ok-look_after.ensures.watched c.in_ok-look_after.ensures.shown c.in_ok-apply_chosen.ensures.written

pub returns-clause-more : goal.returns-clause-more
returns-clause-more g c = longer_made c.args.self.now.made c.apply_chosen.new.made c.next_number-number.result (work_event c.work_at-work.result) c.in_ok-apply_chosen.ensures.events
