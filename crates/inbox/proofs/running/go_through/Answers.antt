use Rattle.std.proofs.Common.{◌<◌, ◌++◌, subst, sym}
use Rattle.std.specs.List.{All}
use Rattle.blz_pool.specs.Entries.{entries_with_ids}
use Rattle.std.specs.Prelude.{Result, IfErr}
use Rattle.messages.specs.Lists.{read_lists}
use Rattle.messages.specs.declared.fault.EventFault.{EventFault}
use Rattle.messages.proofs.FaultLemmas.{handed_on}
use Rattle.inbox.specs.Running.{HasMet}
use Rattle.inbox.specs.SetOffs.{going_entries, released_read}
use Rattle.inbox.specs.Timesteps.{one_timestep}
use Rattle.inbox.proofs.RunningLemmas.{met_soon}
use Rattle.inbox.proofs.EntryTimesteps.{gone_then, met_then, arrive_then, arrive_left, arrive_right, given_to_on}
use Rattle.inbox.proofs.running.go_through.Goals as goal

pub go_released-requires-clause-arrivals : goal.go_released-requires-clause-arrivals
go_released-requires-clause-arrivals g c = arrive_left ((goal.Component-dyn g (c.args.shell.now.vtable, c.args.shell.now.value)).program c.args.shell.now.value) (released_read c.args.lists.now.records c.args.set.now.ports c.args.set.now.released) (one_timestep c.args.set.now.ports (entries_with_ids c.args.lists.now.records (going_entries c.args.set.now.going))) c.requires.arrivals

pub returns-in_err-go_released-clause-fault : goal.returns-in_err-go_released-clause-fault
returns-in_err-go_released-clause-fault g c =
    handed_on (λ (answer : Result (Unit {0}) EventFault). IfErr answer (λ fault. HasMet fault ((goal.Component-dyn g (c.args.shell.now.vtable, c.args.shell.now.value)).program c.args.shell.now.value) c.args.outlets.now ((goal.Component-dyn g (c.args.shell.now.vtable, c.args.shell.now.value)).kept c.args.shell.now.value) (read_lists c.args.lists.now) ((released_read c.args.lists.now.records c.args.set.now.ports c.args.set.now.released) ++ (one_timestep c.args.set.now.ports (entries_with_ids c.args.lists.now.records (going_entries c.args.set.now.going)))))) c.from_residual.result c.in_err-go_released.field-0.0 c.from_residual.ensures.1
    (met_soon c.in_err-go_released.field-0.0 ((goal.Component-dyn g (c.args.shell.now.vtable, c.args.shell.now.value)).program c.args.shell.now.value) c.args.outlets.now ((goal.Component-dyn g (c.args.shell.now.vtable, c.args.shell.now.value)).kept c.args.shell.now.value) (read_lists c.args.lists.now) (released_read c.args.lists.now.records c.args.set.now.ports c.args.set.now.released) (one_timestep c.args.set.now.ports (entries_with_ids c.args.lists.now.records (going_entries c.args.set.now.going))) c.in_err-go_released.ensures.fault)

pub go_along-requires-clause-given : goal.go_along-requires-clause-given
go_along-requires-clause-given g c = given_to_on c.args.lists.now.records c.go_released.new.lists.records c.args.set.now c.in_ok-go_released.ensures.ok.records c.requires.given

pub go_along-requires-clause-arrivals : goal.go_along-requires-clause-arrivals
go_along-requires-clause-arrivals g c = arrive_then (one_timestep c.args.set.now.ports) ((goal.Component-dyn g (c.go_released.new.shell.vtable, c.go_released.new.shell.value)).program c.go_released.new.shell.value) ((goal.Component-dyn g (c.args.shell.now.vtable, c.args.shell.now.value)).program c.args.shell.now.value) c.args.outlets.now ((goal.Component-dyn g (c.args.shell.now.vtable, c.args.shell.now.value)).kept c.args.shell.now.value) ((goal.Component-dyn g (c.go_released.new.shell.vtable, c.go_released.new.shell.value)).kept c.go_released.new.shell.value) c.args.lists.now c.go_released.new.lists (going_entries c.args.set.now.going) (released_read c.args.lists.now.records c.args.set.now.ports c.args.set.now.released) c.go_released.ensures.loaded c.in_ok-go_released.ensures.ok c.requires.given.going (arrive_right ((goal.Component-dyn g (c.args.shell.now.vtable, c.args.shell.now.value)).program c.args.shell.now.value) (released_read c.args.lists.now.records c.args.set.now.ports c.args.set.now.released) (one_timestep c.args.set.now.ports (entries_with_ids c.args.lists.now.records (going_entries c.args.set.now.going))) c.requires.arrivals)

pub go_along-requires-clause-places : goal.go_along-requires-clause-places
go_along-requires-clause-places g c = subst (λ n. All (λ o. o.place < n) c.args.outlets.now) (sym c.in_ok-go_released.ensures.ok.count) c.requires.places

pub go_along-requires-clause-exact : goal.go_along-requires-clause-exact
go_along-requires-clause-exact g c = c.in_ok-go_released.ensures.ok.exact

pub returns-in_err-go_along-clause-fault : goal.returns-in_err-go_along-clause-fault
returns-in_err-go_along-clause-fault g c =
    handed_on (λ (answer : Result (Unit {0}) EventFault). IfErr answer (λ fault. HasMet fault ((goal.Component-dyn g (c.args.shell.now.vtable, c.args.shell.now.value)).program c.args.shell.now.value) c.args.outlets.now ((goal.Component-dyn g (c.args.shell.now.vtable, c.args.shell.now.value)).kept c.args.shell.now.value) (read_lists c.args.lists.now) ((released_read c.args.lists.now.records c.args.set.now.ports c.args.set.now.released) ++ (one_timestep c.args.set.now.ports (entries_with_ids c.args.lists.now.records (going_entries c.args.set.now.going)))))) c.from_residual-in_err-go_along.result c.in_err-go_along.field-0.0 c.from_residual-in_err-go_along.ensures.1
    (met_then (one_timestep c.args.set.now.ports) ((goal.Component-dyn g (c.go_released.new.shell.vtable, c.go_released.new.shell.value)).program c.go_released.new.shell.value) ((goal.Component-dyn g (c.args.shell.now.vtable, c.args.shell.now.value)).program c.args.shell.now.value) c.args.outlets.now ((goal.Component-dyn g (c.args.shell.now.vtable, c.args.shell.now.value)).kept c.args.shell.now.value) ((goal.Component-dyn g (c.go_released.new.shell.vtable, c.go_released.new.shell.value)).kept c.go_released.new.shell.value) c.args.lists.now c.go_released.new.lists (going_entries c.args.set.now.going) (released_read c.args.lists.now.records c.args.set.now.ports c.args.set.now.released) c.go_released.ensures.loaded c.in_ok-go_released.ensures.ok c.requires.given.going c.in_err-go_along.field-0.0 c.in_err-go_along.ensures.fault)

pub returns-clause-ok : goal.returns-clause-ok
returns-clause-ok g c = gone_then (one_timestep c.args.set.now.ports) ((goal.Component-dyn g (c.go_released.new.shell.vtable, c.go_released.new.shell.value)).program c.go_released.new.shell.value) ((goal.Component-dyn g (c.args.shell.now.vtable, c.args.shell.now.value)).program c.args.shell.now.value) c.args.outlets.now ((goal.Component-dyn g (c.args.shell.now.vtable, c.args.shell.now.value)).kept c.args.shell.now.value) ((goal.Component-dyn g (c.go_released.new.shell.vtable, c.go_released.new.shell.value)).kept c.go_released.new.shell.value) c.args.lists.now c.go_released.new.lists (going_entries c.args.set.now.going) (released_read c.args.lists.now.records c.args.set.now.ports c.args.set.now.released) c.go_released.ensures.loaded c.in_ok-go_released.ensures.ok c.requires.given.going ((goal.Component-dyn g (c.go_along.new.shell.vtable, c.go_along.new.shell.value)).kept c.go_along.new.shell.value) c.go_along.new.lists c.in_ok-go_along.ensures.ok
