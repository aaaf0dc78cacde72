use Rattle.std.proofs.Common.{[], subst, sym}
use Rattle.bloom_eval.specs.Arrivals.{timestep_of}
use Rattle.std.specs.List.{All}
use Rattle.blz_pool.specs.Entries.{entries_with_ids}
use Rattle.bloom_eval.specs.Step.{Arrive}
use Rattle.std.specs.Prelude.{Result, IfErr}
use Rattle.messages.specs.Lists.{read_lists}
use Rattle.messages.specs.declared.fault.EventFault.{EventFault}
use Rattle.messages.proofs.FaultLemmas.{handed_on}
use Rattle.inbox.specs.Running.{HasMet}
use Rattle.inbox.specs.Running.{HasGone}
use Rattle.inbox.specs.SetOffs.{going_entries}
use Rattle.inbox.specs.Timesteps.{one_timestep}
use Rattle.inbox.proofs.RunningLemmas.{gone_none}
use Rattle.inbox.proofs.EntryTimesteps.{along_given, along_none, along_some, arrive_first}
use Rattle.inbox.proofs.running.go_along.Goals as goal

pub returns-then-is_empty-clause-ok : goal.returns-then-is_empty-clause-ok
returns-then-is_empty-clause-ok g c =
    subst (λ l. HasGone ((goal.Component-dyn g (c.args.shell.now.vtable, c.args.shell.now.value)).program c.args.shell.now.value) c.args.outlets.now ((goal.Component-dyn g (c.args.shell.now.vtable, c.args.shell.now.value)).kept c.args.shell.now.value) ((goal.Component-dyn g (c.args.shell.now.vtable, c.args.shell.now.value)).kept c.args.shell.now.value) c.args.lists.now c.args.lists.now l) (sym (along_none c.args.set.now.ports c.args.lists.now.records (going_entries c.args.set.now.going) c.as_slice-entries.result.now c.as_slice-entries.ensures c.is_empty.result c.is_empty.ensures c.if-is_empty.true))
    (gone_none ((goal.Component-dyn g (c.args.shell.now.vtable, c.args.shell.now.value)).program c.args.shell.now.value) c.args.outlets.now ((goal.Component-dyn g (c.args.shell.now.vtable, c.args.shell.now.value)).kept c.args.shell.now.value) c.args.lists.now c.requires.exact c.known.ensures.few)

pub step_once-requires-clause-given : goal.step_once-requires-clause-given
step_once-requires-clause-given g c = along_given c.args.set.now.ports c.args.lists.now.records (going_entries c.args.set.now.going) c.as_slice-entries.result.now c.as_slice-entries.ensures c.requires.given.going

pub step_once-requires-clause-arrivals : goal.step_once-requires-clause-arrivals
step_once-requires-clause-arrivals g c = arrive_first ((goal.Component-dyn g (c.args.shell.now.vtable, c.args.shell.now.value)).program c.args.shell.now.value) (timestep_of c.args.set.now.ports (entries_with_ids c.args.lists.now.records c.as_slice-entries.result.now)) [] (subst (λ l. All (Arrive ((goal.Component-dyn g (c.args.shell.now.vtable, c.args.shell.now.value)).program c.args.shell.now.value)) l) (along_some c.args.set.now.ports c.args.lists.now.records (going_entries c.args.set.now.going) c.as_slice-entries.result.now c.as_slice-entries.ensures c.is_empty.result c.is_empty.ensures c.if-is_empty.false) c.requires.arrivals)

pub returns-in_err-step_once-clause-fault : goal.returns-in_err-step_once-clause-fault
returns-in_err-step_once-clause-fault g c =
    handed_on (λ (answer : Result (Unit {0}) EventFault). IfErr answer (λ fault. HasMet fault ((goal.Component-dyn g (c.args.shell.now.vtable, c.args.shell.now.value)).program c.args.shell.now.value) c.args.outlets.now ((goal.Component-dyn g (c.args.shell.now.vtable, c.args.shell.now.value)).kept c.args.shell.now.value) (read_lists c.args.lists.now) (one_timestep c.args.set.now.ports (entries_with_ids c.args.lists.now.records (going_entries c.args.set.now.going))))) c.from_residual.result c.in_err-step_once.field-0.0 c.from_residual.ensures.1
    (subst (λ l. HasMet c.in_err-step_once.field-0.0 ((goal.Component-dyn g (c.args.shell.now.vtable, c.args.shell.now.value)).program c.args.shell.now.value) c.args.outlets.now ((goal.Component-dyn g (c.args.shell.now.vtable, c.args.shell.now.value)).kept c.args.shell.now.value) (read_lists c.args.lists.now) l) (sym (along_some c.args.set.now.ports c.args.lists.now.records (going_entries c.args.set.now.going) c.as_slice-entries.result.now c.as_slice-entries.ensures c.is_empty.result c.is_empty.ensures c.if-is_empty.false)) c.in_err-step_once.ensures.fault)

pub returns-clause-ok : goal.returns-clause-ok
returns-clause-ok g c =
    subst (λ l. HasGone ((goal.Component-dyn g (c.args.shell.now.vtable, c.args.shell.now.value)).program c.args.shell.now.value) c.args.outlets.now ((goal.Component-dyn g (c.args.shell.now.vtable, c.args.shell.now.value)).kept c.args.shell.now.value) ((goal.Component-dyn g (c.step_once.new.shell.vtable, c.step_once.new.shell.value)).kept c.step_once.new.shell.value) c.args.lists.now c.step_once.new.lists l) (sym (along_some c.args.set.now.ports c.args.lists.now.records (going_entries c.args.set.now.going) c.as_slice-entries.result.now c.as_slice-entries.ensures c.is_empty.result c.is_empty.ensures c.if-is_empty.false)) c.in_ok-step_once.ensures.ok
