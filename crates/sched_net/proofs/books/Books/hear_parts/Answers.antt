use Rattle.std.proofs.Common.{Err, ℕ, List, ap, map, refl, ◌∙◌, arith}
use Rattle.std.specs.Prelude.{Result}
use Rattle.inbox.specs.SetOffs.{set_off_read}
use Rattle.inbox.specs.Limits.{too_many_rows, too_many_messages}
use Rattle.sched_net.specs.Code.Hearing.{HearingAnswers, HearingLeaves}
use Rattle.messages.specs.declared.fault.EventFault.{EventFault}
use Rattle.messages.specs.declared.message.Message.{Message}
use Rattle.messages.proofs.FaultLemmas.{handed_on}
use Rattle.sched_net.proofs.HearingCalls.{call_place, call_program, call_given, call_arrives, call_outlets, limit_answers, done_answers, done_leaves}
use Rattle.sched_net.proofs.HearingEnds.{answers_refused, leaves_refused, answers_limits}
use Rattle.sched_net.proofs.HearingStands.{seat_still}
use Rattle.sched_net.proofs.HearingTests.{hears_is, hearing_holds}
use Rattle.sched_net.proofs.PartsFound.{seat_place, books_run}
use Rattle.sched_net.proofs.books.Books.hear_parts.Goals as goal

pub returns-in_err-set-clause-answer : goal.returns-in_err-set-clause-answer
returns-in_err-set-clause-answer g c =
    handed_on (λ (answer : Result (Unit {0}) EventFault). HearingAnswers c.args.valid.now.view (map (λ b. (goal.Component-dyn g (b.vtable, b.value)).program b.value) c.args.shells.now.items) (map (λ b. (goal.Component-dyn g (b.vtable, b.value)).kept b.value) c.args.shells.now.items) c.args.self.now c.args.parts.now c.args.component c.args.replica answer) c.from_residual.result c.in_err-set.field-0.0 c.from_residual.ensures.1
    (answers_refused c.args.valid.now.view c.args.component c.args.replica (map (λ b. (goal.Component-dyn g (b.vtable, b.value)).program b.value) c.args.shells.now.items) (map (λ b. (goal.Component-dyn g (b.vtable, b.value)).kept b.value) c.args.shells.now.items) c.args.self.now c.args.parts.now (λ (pairs : List (ℕ × Message)). pairs) c.in_err-set.field-0.0
    (hearing_holds c.args.valid.now.view c.args.component c.args.replica c.args.parts.now c.requires.hears c.requires.some) c.in_err-set.ensures.refused)

pub returns-in_err-set-clause-leaves : goal.returns-in_err-set-clause-leaves
returns-in_err-set-clause-leaves g c =
    handed_on (λ (answer : Result (Unit {0}) EventFault). HearingLeaves c.args.valid.now.view (map (λ b. (goal.Component-dyn g (b.vtable, b.value)).program b.value) c.args.shells.now.items) (map (λ b. (goal.Component-dyn g (b.vtable, b.value)).kept b.value) c.args.shells.now.items) (map (λ b. (goal.Component-dyn g (b.vtable, b.value)).kept b.value) c.args.shells.now.items) c.args.self.now c.hear.new.self c.args.parts.now c.args.component c.args.replica answer) c.from_residual.result c.in_err-set.field-0.0 c.from_residual.ensures.1
    (leaves_refused c.args.valid.now.view c.args.component c.args.replica (map (λ b. (goal.Component-dyn g (b.vtable, b.value)).program b.value) c.args.shells.now.items) (map (λ b. (goal.Component-dyn g (b.vtable, b.value)).kept b.value) c.args.shells.now.items) c.args.self.now c.args.parts.now c.in_err-set.field-0.0 c.hear.new.self c.in_err-set.ensures.stays)

pub index-requires : goal.index-requires
index-requires g c =
    let own = hears_is c.args.valid.now.view c.args.component c.args.replica c.requires.hears in
    omega (
      arith,
      c.hear.new.self.seats.ok,
      seat_still c.args.valid.now.view c.args.self.now c.args.component c.args.replica c.args.self.now.lists.records c.in_ok-set.ensures.heard.pairs c.in_ok-set.ensures.heard.indexes (set_off_read c.args.self.now.lists.records c.in_ok-set.set) c.hear.new.self.seats.items c.in_ok-set.ensures.heard.heard c.instance-place.result
          (seat_place c.args.valid.now.view c.args.self.now c.args.component c.args.replica own.there own.within (books_run c.args.valid.now.view (map (λ b. (goal.Component-dyn g (b.vtable, b.value)).program b.value) c.args.shells.now.items) (map (λ b. (goal.Component-dyn g (b.vtable, b.value)).kept b.value) c.args.shells.now.items) c.args.self.now c.requires.runs) c.instance-place.result c.instance-place.ensures),
    )

pub emit_at-requires-clause-place : goal.emit_at-requires-clause-place
emit_at-requires-clause-place g c =
    call_place c.args.valid.now.view c.known.ensures c.args.component c.args.replica c.requires.hears (map (λ b. (goal.Component-dyn g (b.vtable, b.value)).program b.value) c.args.shells.now.items) (map (λ b. (goal.Component-dyn g (b.vtable, b.value)).kept b.value) c.args.shells.now.items) c.args.self.now c.args.parts.now c.requires.some c.in_ok-set.ensures.heard.pairs c.in_ok-set.ensures.heard.indexes
    c.in_ok-set.ensures.heard.are.are c.in_ok-set.set c.hear.new.self.seats.items c.in_ok-set.ensures.heard.heard c.instance-place.result c.instance-place.ensures c.hear.new.self.lists c.hear.ensures.lists
    c.index.result.now c.index.ensures c.as_slice.result.now c.as_slice.ensures
    c.requires.runs (λ b. (goal.Component-dyn g (b.vtable, b.value)).program b.value) c.args.shells.now.items refl

pub emit_at-requires-clause-program : goal.emit_at-requires-clause-program
emit_at-requires-clause-program g c =
    call_program c.args.valid.now.view c.known.ensures c.args.component c.args.replica c.requires.hears (map (λ b. (goal.Component-dyn g (b.vtable, b.value)).program b.value) c.args.shells.now.items) (map (λ b. (goal.Component-dyn g (b.vtable, b.value)).kept b.value) c.args.shells.now.items) c.args.self.now c.args.parts.now c.requires.some c.in_ok-set.ensures.heard.pairs c.in_ok-set.ensures.heard.indexes
    c.in_ok-set.ensures.heard.are.are c.in_ok-set.set c.hear.new.self.seats.items c.in_ok-set.ensures.heard.heard c.instance-place.result c.instance-place.ensures c.hear.new.self.lists c.hear.ensures.lists
    c.index.result.now c.index.ensures c.as_slice.result.now c.as_slice.ensures
    c.requires.runs

pub emit_at-requires-clause-given : goal.emit_at-requires-clause-given
emit_at-requires-clause-given g c =
    call_given c.args.valid.now.view c.known.ensures c.args.component c.args.replica c.requires.hears (map (λ b. (goal.Component-dyn g (b.vtable, b.value)).program b.value) c.args.shells.now.items) (map (λ b. (goal.Component-dyn g (b.vtable, b.value)).kept b.value) c.args.shells.now.items) c.args.self.now c.args.parts.now c.requires.some c.in_ok-set.ensures.heard.pairs c.in_ok-set.ensures.heard.indexes
    c.in_ok-set.ensures.heard.are.are c.in_ok-set.set c.hear.new.self.seats.items c.in_ok-set.ensures.heard.heard c.instance-place.result c.instance-place.ensures c.hear.new.self.lists c.hear.ensures.lists
    c.index.result.now c.index.ensures c.as_slice.result.now c.as_slice.ensures
    c.in_ok-set.ensures.given

pub emit_at-requires-clause-arrivals : goal.emit_at-requires-clause-arrivals
emit_at-requires-clause-arrivals g c =
    call_arrives c.args.valid.now.view c.known.ensures c.args.component c.args.replica c.requires.hears (map (λ b. (goal.Component-dyn g (b.vtable, b.value)).program b.value) c.args.shells.now.items) (map (λ b. (goal.Component-dyn g (b.vtable, b.value)).kept b.value) c.args.shells.now.items) c.args.self.now c.args.parts.now c.requires.some c.in_ok-set.ensures.heard.pairs c.in_ok-set.ensures.heard.indexes
    c.in_ok-set.ensures.heard.are.are c.in_ok-set.set c.hear.new.self.seats.items c.in_ok-set.ensures.heard.heard c.instance-place.result c.instance-place.ensures c.hear.new.self.lists c.hear.ensures.lists
    c.index.result.now c.index.ensures c.as_slice.result.now c.as_slice.ensures
    c.requires.runs

pub emit_at-requires-clause-places : goal.emit_at-requires-clause-places
emit_at-requires-clause-places g c =
    call_outlets c.args.valid.now.view c.known.ensures c.args.component c.args.replica c.requires.hears (map (λ b. (goal.Component-dyn g (b.vtable, b.value)).program b.value) c.args.shells.now.items) (map (λ b. (goal.Component-dyn g (b.vtable, b.value)).kept b.value) c.args.shells.now.items) c.args.self.now c.args.parts.now c.requires.some c.in_ok-set.ensures.heard.pairs c.in_ok-set.ensures.heard.indexes
    c.in_ok-set.ensures.heard.are.are c.in_ok-set.set c.hear.new.self.seats.items c.in_ok-set.ensures.heard.heard c.instance-place.result c.instance-place.ensures c.hear.new.self.lists c.hear.ensures.lists
    c.index.result.now c.index.ensures c.as_slice.result.now c.as_slice.ensures
    c.requires.runs

pub returns-in_err-emit_at-clause-answer : goal.returns-in_err-emit_at-clause-answer
returns-in_err-emit_at-clause-answer g c =
    handed_on (λ (answer : Result (Unit {0}) EventFault). HearingAnswers c.args.valid.now.view (map (λ b. (goal.Component-dyn g (b.vtable, b.value)).program b.value) c.args.shells.now.items) (map (λ b. (goal.Component-dyn g (b.vtable, b.value)).kept b.value) c.args.shells.now.items) c.args.self.now c.args.parts.now c.args.component c.args.replica answer) c.from_residual-in_err-emit_at.result c.in_err-emit_at.field-0.0 c.from_residual-in_err-emit_at.ensures.1
    (answers_limits c.args.valid.now.view c.args.component c.args.replica (map (λ b. (goal.Component-dyn g (b.vtable, b.value)).program b.value) c.args.shells.now.items) (map (λ b. (goal.Component-dyn g (b.vtable, b.value)).kept b.value) c.args.shells.now.items) c.args.self.now c.args.parts.now c.in_err-emit_at.field-0.0 c.in_err-emit_at.ensures.legal
    (λ is. limit_answers c.args.valid.now.view c.known.ensures c.args.component c.args.replica c.requires.hears (map (λ b. (goal.Component-dyn g (b.vtable, b.value)).program b.value) c.args.shells.now.items) (map (λ b. (goal.Component-dyn g (b.vtable, b.value)).kept b.value) c.args.shells.now.items) c.args.self.now c.args.parts.now c.requires.some c.in_ok-set.ensures.heard.pairs c.in_ok-set.ensures.heard.indexes
    c.in_ok-set.ensures.heard.are.are c.in_ok-set.set c.hear.new.self.seats.items c.in_ok-set.ensures.heard.heard c.instance-place.result c.instance-place.ensures c.hear.new.self.lists c.hear.ensures.lists
    c.index.result.now c.index.ensures c.as_slice.result.now c.as_slice.ensures too_many_rows (c.emit_at.ensures.rows (c.in_err-emit_at.was ∙ ap (λ (fault : EventFault). Err fault) is)))
    (λ is. limit_answers c.args.valid.now.view c.known.ensures c.args.component c.args.replica c.requires.hears (map (λ b. (goal.Component-dyn g (b.vtable, b.value)).program b.value) c.args.shells.now.items) (map (λ b. (goal.Component-dyn g (b.vtable, b.value)).kept b.value) c.args.shells.now.items) c.args.self.now c.args.parts.now c.requires.some c.in_ok-set.ensures.heard.pairs c.in_ok-set.ensures.heard.indexes
    c.in_ok-set.ensures.heard.are.are c.in_ok-set.set c.hear.new.self.seats.items c.in_ok-set.ensures.heard.heard c.instance-place.result c.instance-place.ensures c.hear.new.self.lists c.hear.ensures.lists
    c.index.result.now c.index.ensures c.as_slice.result.now c.as_slice.ensures too_many_messages (c.emit_at.ensures.messages (c.in_err-emit_at.was ∙ ap (λ (fault : EventFault). Err fault) is))))

pub returns-clause-answer : goal.returns-clause-answer
returns-clause-answer g c = done_answers c.args.valid.now.view c.known.ensures c.args.component c.args.replica c.requires.hears (map (λ b. (goal.Component-dyn g (b.vtable, b.value)).program b.value) c.args.shells.now.items) (map (λ b. (goal.Component-dyn g (b.vtable, b.value)).kept b.value) c.args.shells.now.items) c.args.self.now c.args.parts.now c.requires.some c.in_ok-set.ensures.heard.pairs c.in_ok-set.ensures.heard.indexes
    c.in_ok-set.ensures.heard.are.are c.in_ok-set.set c.hear.new.self.seats.items c.in_ok-set.ensures.heard.heard c.instance-place.result c.instance-place.ensures c.hear.new.self.lists c.hear.ensures.lists
    c.index.result.now c.index.ensures c.as_slice.result.now c.as_slice.ensures
    c.in_ok-set.ensures.heard.feeds c.in_ok-set.ensures.heard.are.indexes_are
    (record { places = c.hear.new.self.places; lists = c.emit_at.new.lists; logs = c.hear.new.self.logs; seats = c.hear.new.self.seats; puts = c.emit_at.new.puts; ended = c.hear.new.self.ended }) (map (λ b. (goal.Component-dyn g (b.vtable, b.value)).kept b.value) c.emit_at.new.shells.items)
    c.in_ok-emit_at.ensures.ok c.in_ok-emit_at.ensures.others c.in_ok-emit_at.ensures.records c.known-2.ensures.pool c.in_ok-emit_at.ensures.exact refl c.hear.ensures.places c.hear.ensures.logs c.hear.ensures.ended

pub returns-clause-leaves : goal.returns-clause-leaves
returns-clause-leaves g c = done_leaves c.args.valid.now.view c.known.ensures c.args.component c.args.replica c.requires.hears (map (λ b. (goal.Component-dyn g (b.vtable, b.value)).program b.value) c.args.shells.now.items) (map (λ b. (goal.Component-dyn g (b.vtable, b.value)).kept b.value) c.args.shells.now.items) c.args.self.now c.args.parts.now c.requires.some c.in_ok-set.ensures.heard.pairs c.in_ok-set.ensures.heard.indexes
    c.in_ok-set.ensures.heard.are.are c.in_ok-set.set c.hear.new.self.seats.items c.in_ok-set.ensures.heard.heard c.instance-place.result c.instance-place.ensures c.hear.new.self.lists c.hear.ensures.lists
    c.index.result.now c.index.ensures c.as_slice.result.now c.as_slice.ensures
    c.in_ok-set.ensures.heard.feeds c.in_ok-set.ensures.heard.are.indexes_are
    (record { places = c.hear.new.self.places; lists = c.emit_at.new.lists; logs = c.hear.new.self.logs; seats = c.hear.new.self.seats; puts = c.emit_at.new.puts; ended = c.hear.new.self.ended }) (map (λ b. (goal.Component-dyn g (b.vtable, b.value)).kept b.value) c.emit_at.new.shells.items)
    c.in_ok-emit_at.ensures.ok c.in_ok-emit_at.ensures.others c.in_ok-emit_at.ensures.records c.known-2.ensures.pool c.in_ok-emit_at.ensures.exact refl c.hear.ensures.places c.hear.ensures.logs c.hear.ensures.ended
