use Rattle.std.proofs.Common.{[], arith, ◌∙◌, ◌++◌, ◌∷◌, ap}
use Rattle.inbox.specs.Events.{Event}
use Rattle.sched_net.specs.Numbered.{event_by_numbers}
use Rattle.sched_run.specs.Code.Works.{work_event}
use Rattle.sched_run.proofs.MakingApplies.{applies_done, applies_fault, applies_many, applies_none, legal_fault}
use Rattle.sched_run.proofs.WrittenLemmas.{as_many_events, work_named, written_more}
use Rattle.sched_run.proofs.making.apply.Goals as goal

pub returns-then-len-ge-MAX_EVENTS-clause-applies : goal.returns-then-len-ge-MAX_EVENTS-clause-applies
returns-then-len-ge-MAX_EVENTS-clause-applies g c = applies_many _ _ _ [] _ c.args.net.now.books _ [] (work_event c.args.work.now) (as_many_events c.args.net.now.valid.now.view c.args.made.now c.requires.written (omega arith))

pub fault_at-requires : goal.fault_at-requires
fault_at-requires g c = legal_fault _ _ _ _ _ _ _ c.numbered_event.result c.in-Err.fault c.requires.legal c.event-event.ensures c.numbered_event.ensures.answer c.in-Err.is

pub returns-in-Err-clause-applies : goal.returns-in-Err-clause-applies
returns-in-Err-clause-applies g c =
    applies_fault _ _ _ [] _ c.args.net.now.books _ [] (work_event c.args.work.now) (event_by_numbers c.event-event.result) _ c.event-event.ensures c.numbered_event.result c.numbered_event.ensures.answer c.in-Err.fault c.fault_at.result c.in-Err.is c.fault_at.ensures (omega arith) (omega arith)

pub returns-in_err-push-clause-applies : goal.returns-in_err-push-clause-applies
returns-in_err-push-clause-applies g c = applies_none _ _ _ _ _ _ _ _ (work_event c.args.work.now) c.from_residual.result c.from_residual.ensures.1

pub returns-clause-applies : goal.returns-clause-applies
returns-clause-applies g c =
    applies_done _ _ _ _ _ _ _ _ (work_event c.args.work.now) (event_by_numbers c.event-event.result) 0 c.event-event.ensures c.numbered_event.result c.numbered_event.ensures.answer c.in_default.field-0 c.in_default.is c.numbered_event.ensures.leaves c.in_ok-push.ensures

pub returns-clause-written : goal.returns-clause-written
returns-clause-written g c =
    written_more c.args.net.now.valid.now.view c.args.made.now c.push.new.self (work_event c.args.work.now) c.requires.written (omega arith) (work_named c.args.net.now.valid.now.view c.args.work.now c.requires.names)
    (c.in_ok-push.ensures ∙ ap (λ (e : Event). c.args.made.now ++ e ∷ []) c.event-event.ensures)

pub returns-clause-events : goal.returns-clause-events
returns-clause-events g c = c.in_ok-push.ensures ∙ ap (λ (e : Event). c.args.made.now ++ e ∷ []) c.event-event.ensures
