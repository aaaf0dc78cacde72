use Rattle.std.proofs.Common.{◌∙◌, sym, ap, map, refl, arith, Err}
use Rattle.std.proofs.lemmas.List.{length-map}
use Rattle.inbox.specs.Events.{take_one}
use Rattle.sched_net.specs.Net.{EventAnswers}
use Rattle.messages.proofs.FaultLemmas.{handed_on}
use Rattle.sched_net.proofs.TakingEnds.{answers_absent, answers_nothing, seat_inside, shell_there, shell_runs, entry_given, outlets_within, arrives_here, answers_fault, answers_done, leaves_done}
use Rattle.sched_net.proofs.books.Books.take_next.Goals as goal

pub returns-then-not-takes_itself-clause-answer : goal.returns-then-not-takes_itself-clause-answer
returns-then-not-takes_itself-clause-answer g c = answers_absent c.args.valid.now.view (map (λ b. (goal.Component-dyn g (b.vtable, b.value)).program b.value) c.args.shells.now.items) (map (λ b. (goal.Component-dyn g (b.vtable, b.value)).kept b.value) c.args.shells.now.items) c.args.self.now c.args.component c.args.replica (sym c.takes_itself.ensures ∙ c.if-not-takes_itself.true)

pub next_entry-requires-clause-place : goal.next_entry-requires-clause-place
next_entry-requires-clause-place g c = seat_inside c.args.valid.now.view (map (λ b. (goal.Component-dyn g (b.vtable, b.value)).program b.value) c.args.shells.now.items) (map (λ b. (goal.Component-dyn g (b.vtable, b.value)).kept b.value) c.args.shells.now.items) c.args.self.now c.args.component c.args.replica c.instance-place.result (sym c.takes_itself.ensures ∙ c.if-not-takes_itself.false) c.instance-place.ensures c.requires.runs

pub returns-in_default-clause-answer : goal.returns-in_default-clause-answer
returns-in_default-clause-answer g c = answers_nothing c.args.valid.now.view (map (λ b. (goal.Component-dyn g (b.vtable, b.value)).program b.value) c.args.shells.now.items) (map (λ b. (goal.Component-dyn g (b.vtable, b.value)).kept b.value) c.args.shells.now.items) c.args.self.now c.args.component c.args.replica c.instance-place.result c.next_entry.result c.known.ensures (sym c.takes_itself.ensures ∙ c.if-not-takes_itself.false) c.instance-place.ensures c.next_entry.ensures.next c.in_default.is

pub index-requires : goal.index-requires
index-requires g c = (let inside = seat_inside c.args.valid.now.view (map (λ b. (goal.Component-dyn g (b.vtable, b.value)).program b.value) c.args.shells.now.items) (map (λ b. (goal.Component-dyn g (b.vtable, b.value)).kept b.value) c.args.shells.now.items) c.args.self.now c.args.component c.args.replica c.instance-place.result (sym c.takes_itself.ensures ∙ c.if-not-takes_itself.false) c.instance-place.ensures c.requires.runs in let same = c.args.self.now.seats.ok.0 in omega (arith, inside, same))

pub emit_entry-requires-clause-place : goal.emit_entry-requires-clause-place
emit_entry-requires-clause-place g c = (let inside = shell_there c.args.valid.now.view (map (λ b. (goal.Component-dyn g (b.vtable, b.value)).program b.value) c.args.shells.now.items) (map (λ b. (goal.Component-dyn g (b.vtable, b.value)).kept b.value) c.args.shells.now.items) c.args.self.now c.args.component c.args.replica c.instance-place.result (sym c.takes_itself.ensures ∙ c.if-not-takes_itself.false) c.instance-place.ensures c.known.ensures c.requires.runs in let many = length-map c.args.shells.now.items (λ b. (goal.Component-dyn g (b.vtable, b.value)).program b.value) in omega (arith, inside, many))

pub emit_entry-requires-clause-program : goal.emit_entry-requires-clause-program
emit_entry-requires-clause-program g c = shell_runs c.args.valid.now.view (map (λ b. (goal.Component-dyn g (b.vtable, b.value)).program b.value) c.args.shells.now.items) (map (λ b. (goal.Component-dyn g (b.vtable, b.value)).kept b.value) c.args.shells.now.items) c.args.self.now c.args.component c.args.replica c.instance-place.result (sym c.takes_itself.ensures ∙ c.if-not-takes_itself.false) c.instance-place.ensures c.known.ensures c.requires.runs

pub emit_entry-requires-clause-given : goal.emit_entry-requires-clause-given
emit_entry-requires-clause-given g c =
    entry_given c.args.valid.now.view (map (λ b. (goal.Component-dyn g (b.vtable, b.value)).program b.value) c.args.shells.now.items) (map (λ b. (goal.Component-dyn g (b.vtable, b.value)).kept b.value) c.args.shells.now.items) c.args.self.now c.args.component c.args.replica c.instance-place.result c.port_count.result c.in-Some.entry c.as_slice.result.now
    (record { valid = c.known.ensures; takes = sym c.takes_itself.ensures ∙ c.if-not-takes_itself.false; place_is = c.instance-place.ensures; found = c.next_entry.result; next = c.next_entry.ensures.next; is = c.in-Some.is; ports_are = c.port_count.ensures; seat = c.index.result.now; at = c.index.ensures; outlets_are = c.as_slice.ensures })
    c.requires.runs

pub emit_entry-requires-clause-arrives : goal.emit_entry-requires-clause-arrives
emit_entry-requires-clause-arrives g c =
    arrives_here c.args.valid.now.view (map (λ b. (goal.Component-dyn g (b.vtable, b.value)).program b.value) c.args.shells.now.items) (map (λ b. (goal.Component-dyn g (b.vtable, b.value)).kept b.value) c.args.shells.now.items) c.args.self.now c.args.component c.args.replica c.instance-place.result c.port_count.result c.in-Some.entry c.as_slice.result.now
    (record { valid = c.known.ensures; takes = sym c.takes_itself.ensures ∙ c.if-not-takes_itself.false; place_is = c.instance-place.ensures; found = c.next_entry.result; next = c.next_entry.ensures.next; is = c.in-Some.is; ports_are = c.port_count.ensures; seat = c.index.result.now; at = c.index.ensures; outlets_are = c.as_slice.ensures })
    c.requires.runs

pub emit_entry-requires-clause-places : goal.emit_entry-requires-clause-places
emit_entry-requires-clause-places g c =
    outlets_within c.args.valid.now.view (map (λ b. (goal.Component-dyn g (b.vtable, b.value)).program b.value) c.args.shells.now.items) (map (λ b. (goal.Component-dyn g (b.vtable, b.value)).kept b.value) c.args.shells.now.items) c.args.self.now c.args.component c.args.replica c.instance-place.result c.port_count.result c.in-Some.entry c.as_slice.result.now
    (record { valid = c.known.ensures; takes = sym c.takes_itself.ensures ∙ c.if-not-takes_itself.false; place_is = c.instance-place.ensures; found = c.next_entry.result; next = c.next_entry.ensures.next; is = c.in-Some.is; ports_are = c.port_count.ensures; seat = c.index.result.now; at = c.index.ensures; outlets_are = c.as_slice.ensures })
    c.requires.runs

pub returns-in_err-emit_entry-clause-answer : goal.returns-in_err-emit_entry-clause-answer
returns-in_err-emit_entry-clause-answer g c =
    handed_on (λ r. EventAnswers c.args.valid.now.view (map (λ b. (goal.Component-dyn g (b.vtable, b.value)).program b.value) c.args.shells.now.items) (map (λ b. (goal.Component-dyn g (b.vtable, b.value)).kept b.value) c.args.shells.now.items) c.args.self.now (take_one c.args.component c.args.replica) r) c.from_residual.result c.in_err-emit_entry.field-0.0 c.from_residual.ensures.1
    (answers_fault c.args.valid.now.view (map (λ b. (goal.Component-dyn g (b.vtable, b.value)).program b.value) c.args.shells.now.items) (map (λ b. (goal.Component-dyn g (b.vtable, b.value)).kept b.value) c.args.shells.now.items) c.args.self.now c.args.component c.args.replica c.instance-place.result c.port_count.result c.in-Some.entry c.as_slice.result.now
    (record { valid = c.known.ensures; takes = sym c.takes_itself.ensures ∙ c.if-not-takes_itself.false; place_is = c.instance-place.ensures; found = c.next_entry.result; next = c.next_entry.ensures.next; is = c.in-Some.is; ports_are = c.port_count.ensures; seat = c.index.result.now; at = c.index.ensures; outlets_are = c.as_slice.ensures })
    c.in_err-emit_entry.field-0.0 c.in_err-emit_entry.ensures.legal (λ e. c.emit_entry.ensures.rows (c.in_err-emit_entry.was ∙ ap Err e)) (λ e. c.emit_entry.ensures.messages (c.in_err-emit_entry.was ∙ ap Err e)))

pub take_at-requires-clause-place : goal.take_at-requires-clause-place
take_at-requires-clause-place g c = seat_inside c.args.valid.now.view (map (λ b. (goal.Component-dyn g (b.vtable, b.value)).program b.value) c.args.shells.now.items) (map (λ b. (goal.Component-dyn g (b.vtable, b.value)).kept b.value) c.args.shells.now.items) c.args.self.now c.args.component c.args.replica c.instance-place.result (sym c.takes_itself.ensures ∙ c.if-not-takes_itself.false) c.instance-place.ensures c.requires.runs

pub returns-clause-answer : goal.returns-clause-answer
returns-clause-answer g c =
    answers_done c.args.valid.now.view (map (λ b. (goal.Component-dyn g (b.vtable, b.value)).program b.value) c.args.shells.now.items) (map (λ b. (goal.Component-dyn g (b.vtable, b.value)).kept b.value) c.args.shells.now.items) c.args.self.now c.args.component c.args.replica c.instance-place.result c.port_count.result c.in-Some.entry c.as_slice.result.now
    (record { valid = c.known.ensures; takes = sym c.takes_itself.ensures ∙ c.if-not-takes_itself.false; place_is = c.instance-place.ensures; found = c.next_entry.result; next = c.next_entry.ensures.next; is = c.in-Some.is; ports_are = c.port_count.ensures; seat = c.index.result.now; at = c.index.ensures; outlets_are = c.as_slice.ensures })
    (map (λ b. (goal.Component-dyn g (b.vtable, b.value)).kept b.value) c.emit_entry.new.shells.items) (record { places = c.args.self.now.places; lists = c.emit_entry.new.lists; logs = c.args.self.now.logs; seats = c.take_at.new.seats; puts = c.emit_entry.new.puts; ended = c.args.self.now.ended }) c.in_ok-emit_entry.ensures.ok

pub returns-clause-leaves : goal.returns-clause-leaves
returns-clause-leaves g c =
    leaves_done c.args.valid.now.view (map (λ b. (goal.Component-dyn g (b.vtable, b.value)).program b.value) c.args.shells.now.items) (map (λ b. (goal.Component-dyn g (b.vtable, b.value)).kept b.value) c.args.shells.now.items) c.args.self.now c.args.component c.args.replica c.instance-place.result c.port_count.result c.in-Some.entry c.as_slice.result.now
    (record { valid = c.known.ensures; takes = sym c.takes_itself.ensures ∙ c.if-not-takes_itself.false; place_is = c.instance-place.ensures; found = c.next_entry.result; next = c.next_entry.ensures.next; is = c.in-Some.is; ports_are = c.port_count.ensures; seat = c.index.result.now; at = c.index.ensures; outlets_are = c.as_slice.ensures })
    (map (λ b. (goal.Component-dyn g (b.vtable, b.value)).kept b.value) c.emit_entry.new.shells.items) (record { places = c.args.self.now.places; lists = c.emit_entry.new.lists; logs = c.args.self.now.logs; seats = c.take_at.new.seats; puts = c.emit_entry.new.puts; ended = c.args.self.now.ended }) c.in_ok-emit_entry.ensures.ok c.in_ok-emit_entry.ensures.records c.in_ok-emit_entry.ensures.pool c.in_ok-emit_entry.ensures.exact c.in_ok-emit_entry.ensures.others c.take_at.ensures refl refl refl
