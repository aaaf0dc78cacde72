use Rattle.std.proofs.Common.{◌<◌, ap, subst, sym}
use Rattle.std.specs.List.{All}
use Rattle.std.specs.Prelude.{Result, IfErr}
use Rattle.messages.specs.Lists.{read_lists}
use Rattle.messages.specs.declared.fault.EventFault.{EventFault}
use Rattle.messages.proofs.FaultLemmas.{handed_on}
use Rattle.inbox.specs.Running.{HasMet}
use Rattle.inbox.specs.Running.{HasGone}
use Rattle.inbox.specs.SetOffs.{released_read}
use Rattle.inbox.proofs.RunningLemmas.{gone_none}
use Rattle.inbox.proofs.EntryTimesteps.{together_given, together_arrives, together_met, rest_given, rest_arrive, rest_gone, rest_met}
use Rattle.inbox.proofs.running.go_released.Goals as goal

pub returns-in_default-clause-ok : goal.returns-in_default-clause-ok
returns-in_default-clause-ok g c =
    subst (λ l. HasGone ((goal.Component-dyn g (c.args.shell.now.vtable, c.args.shell.now.value)).program c.args.shell.now.value) c.args.outlets.now ((goal.Component-dyn g (c.args.shell.now.vtable, c.args.shell.now.value)).kept c.args.shell.now.value) ((goal.Component-dyn g (c.args.shell.now.vtable, c.args.shell.now.value)).kept c.args.shell.now.value) c.args.lists.now c.args.lists.now l) (sym (ap (released_read c.args.lists.now.records c.args.set.now.ports) c.in_default.is))
    (gone_none ((goal.Component-dyn g (c.args.shell.now.vtable, c.args.shell.now.value)).program c.args.shell.now.value) c.args.outlets.now ((goal.Component-dyn g (c.args.shell.now.vtable, c.args.shell.now.value)).kept c.args.shell.now.value) c.args.lists.now c.requires.exact c.known.ensures.few)

pub step_once-requires-clause-given : goal.step_once-requires-clause-given
step_once-requires-clause-given g c = together_given c.args.set.now.ports ((goal.Component-dyn g (c.args.shell.now.vtable, c.args.shell.now.value)).program c.args.shell.now.value) c.args.outlets.now ((goal.Component-dyn g (c.args.shell.now.vtable, c.args.shell.now.value)).kept c.args.shell.now.value) c.args.lists.now c.args.set.now.released c.in-Some.released c.in-Some.is c.requires.given.released c.requires.arrivals c.deref.result.now c.deref.ensures.value

pub step_once-requires-clause-arrivals : goal.step_once-requires-clause-arrivals
step_once-requires-clause-arrivals g c = together_arrives c.args.set.now.ports ((goal.Component-dyn g (c.args.shell.now.vtable, c.args.shell.now.value)).program c.args.shell.now.value) c.args.outlets.now ((goal.Component-dyn g (c.args.shell.now.vtable, c.args.shell.now.value)).kept c.args.shell.now.value) c.args.lists.now c.args.set.now.released c.in-Some.released c.in-Some.is c.requires.given.released c.requires.arrivals c.deref.result.now c.deref.ensures.value

pub returns-in_err-step_once-clause-fault : goal.returns-in_err-step_once-clause-fault
returns-in_err-step_once-clause-fault g c =
    handed_on (λ (answer : Result (Unit {0}) EventFault). IfErr answer (λ fault. HasMet fault ((goal.Component-dyn g (c.args.shell.now.vtable, c.args.shell.now.value)).program c.args.shell.now.value) c.args.outlets.now ((goal.Component-dyn g (c.args.shell.now.vtable, c.args.shell.now.value)).kept c.args.shell.now.value) (read_lists c.args.lists.now) (released_read c.args.lists.now.records c.args.set.now.ports c.args.set.now.released))) c.from_residual.result c.in_err-step_once.field-0.0 c.from_residual.ensures.1
    (together_met c.args.set.now.ports ((goal.Component-dyn g (c.args.shell.now.vtable, c.args.shell.now.value)).program c.args.shell.now.value) c.args.outlets.now ((goal.Component-dyn g (c.args.shell.now.vtable, c.args.shell.now.value)).kept c.args.shell.now.value) c.args.lists.now c.args.set.now.released c.in-Some.released c.in-Some.is c.requires.given.released c.requires.arrivals c.deref.result.now c.deref.ensures.value c.in_err-step_once.field-0.0 c.in_err-step_once.ensures.fault)

pub go_alone-requires-clause-given : goal.go_alone-requires-clause-given
go_alone-requires-clause-given g c = rest_given c.args.set.now.ports ((goal.Component-dyn g (c.args.shell.now.vtable, c.args.shell.now.value)).program c.args.shell.now.value) c.args.outlets.now ((goal.Component-dyn g (c.args.shell.now.vtable, c.args.shell.now.value)).kept c.args.shell.now.value) c.args.lists.now c.args.set.now.released c.in-Some.released c.in-Some.is c.requires.given.released c.requires.arrivals c.deref.result.now c.deref.ensures.value ((goal.Component-dyn g (c.step_once.new.shell.vtable, c.step_once.new.shell.value)).program c.step_once.new.shell.value) ((goal.Component-dyn g (c.step_once.new.shell.vtable, c.step_once.new.shell.value)).kept c.step_once.new.shell.value) c.step_once.new.lists c.step_once.ensures.loaded c.in_ok-step_once.ensures.ok c.deref-2.result.now c.deref-2.ensures.value

pub go_alone-requires-clause-arrivals : goal.go_alone-requires-clause-arrivals
go_alone-requires-clause-arrivals g c = rest_arrive c.args.set.now.ports ((goal.Component-dyn g (c.args.shell.now.vtable, c.args.shell.now.value)).program c.args.shell.now.value) c.args.outlets.now ((goal.Component-dyn g (c.args.shell.now.vtable, c.args.shell.now.value)).kept c.args.shell.now.value) c.args.lists.now c.args.set.now.released c.in-Some.released c.in-Some.is c.requires.given.released c.requires.arrivals c.deref.result.now c.deref.ensures.value ((goal.Component-dyn g (c.step_once.new.shell.vtable, c.step_once.new.shell.value)).program c.step_once.new.shell.value) ((goal.Component-dyn g (c.step_once.new.shell.vtable, c.step_once.new.shell.value)).kept c.step_once.new.shell.value) c.step_once.new.lists c.step_once.ensures.loaded c.in_ok-step_once.ensures.ok c.deref-2.result.now c.deref-2.ensures.value

pub go_alone-requires-clause-places : goal.go_alone-requires-clause-places
go_alone-requires-clause-places g c = subst (λ n. All (λ o. o.place < n) c.args.outlets.now) (sym c.in_ok-step_once.ensures.ok.count) c.requires.places

pub go_alone-requires-clause-exact : goal.go_alone-requires-clause-exact
go_alone-requires-clause-exact g c = c.in_ok-step_once.ensures.ok.exact

pub returns-in_err-go_alone-clause-fault : goal.returns-in_err-go_alone-clause-fault
returns-in_err-go_alone-clause-fault g c =
    handed_on (λ (answer : Result (Unit {0}) EventFault). IfErr answer (λ fault. HasMet fault ((goal.Component-dyn g (c.args.shell.now.vtable, c.args.shell.now.value)).program c.args.shell.now.value) c.args.outlets.now ((goal.Component-dyn g (c.args.shell.now.vtable, c.args.shell.now.value)).kept c.args.shell.now.value) (read_lists c.args.lists.now) (released_read c.args.lists.now.records c.args.set.now.ports c.args.set.now.released))) c.from_residual-in_err-go_alone.result c.in_err-go_alone.field-0.0 c.from_residual-in_err-go_alone.ensures.1
    (rest_met c.args.set.now.ports ((goal.Component-dyn g (c.args.shell.now.vtable, c.args.shell.now.value)).program c.args.shell.now.value) c.args.outlets.now ((goal.Component-dyn g (c.args.shell.now.vtable, c.args.shell.now.value)).kept c.args.shell.now.value) c.args.lists.now c.args.set.now.released c.in-Some.released c.in-Some.is c.requires.given.released c.requires.arrivals c.deref.result.now c.deref.ensures.value ((goal.Component-dyn g (c.step_once.new.shell.vtable, c.step_once.new.shell.value)).program c.step_once.new.shell.value) ((goal.Component-dyn g (c.step_once.new.shell.vtable, c.step_once.new.shell.value)).kept c.step_once.new.shell.value) c.step_once.new.lists c.step_once.ensures.loaded c.in_ok-step_once.ensures.ok c.deref-2.result.now c.deref-2.ensures.value c.in_err-go_alone.field-0.0 c.in_err-go_alone.ensures.fault)

pub returns-clause-ok : goal.returns-clause-ok
returns-clause-ok g c = rest_gone c.args.set.now.ports ((goal.Component-dyn g (c.args.shell.now.vtable, c.args.shell.now.value)).program c.args.shell.now.value) c.args.outlets.now ((goal.Component-dyn g (c.args.shell.now.vtable, c.args.shell.now.value)).kept c.args.shell.now.value) c.args.lists.now c.args.set.now.released c.in-Some.released c.in-Some.is c.requires.given.released c.requires.arrivals c.deref.result.now c.deref.ensures.value ((goal.Component-dyn g (c.step_once.new.shell.vtable, c.step_once.new.shell.value)).program c.step_once.new.shell.value) ((goal.Component-dyn g (c.step_once.new.shell.vtable, c.step_once.new.shell.value)).kept c.step_once.new.shell.value) c.step_once.new.lists c.step_once.ensures.loaded c.in_ok-step_once.ensures.ok c.deref-2.result.now c.deref-2.ensures.value ((goal.Component-dyn g (c.go_alone.new.shell.vtable, c.go_alone.new.shell.value)).kept c.go_alone.new.shell.value) c.go_alone.new.lists c.in_ok-go_alone.ensures.ok
