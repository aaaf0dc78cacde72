use Rattle.std.proofs.Common.{◌<◌, ◌∙◌, refl, subst, sym}
use Rattle.std.specs.Prelude.{Result, IfErr}
use Rattle.std.specs.List.{All}
use Rattle.blz_pool.specs.Entries.{entries_with_ids}
use Rattle.messages.specs.Lists.{read_lists}
use Rattle.messages.specs.declared.fault.EventFault.{EventFault}
use Rattle.messages.proofs.FaultLemmas.{handed_on}
use Rattle.inbox.specs.Timesteps.{one_by_one}
use Rattle.inbox.specs.Running.{HasMet}
use Rattle.inbox.proofs.EntryTimesteps.{alone_given, alone_arrives, alone_gone, alone_met, alone_all}
use Rattle.inbox.proofs.RunningLemmas.{gone_none}
use Rattle.inbox.proofs.running.go_alone.Goals as goal

pub step_once-requires-clause-given : goal.step_once-requires-clause-given
step_once-requires-clause-given g c = alone_given c.args.ports ((goal.Component-dyn g (c.loop-entry.shell.vtable, c.loop-entry.shell.value)).program c.loop-entry.shell.value) ((goal.Component-dyn g (c.args.shell.now.vtable, c.args.shell.now.value)).program c.args.shell.now.value) c.args.outlets.now ((goal.Component-dyn g (c.args.shell.now.vtable, c.args.shell.now.value)).kept c.args.shell.now.value) ((goal.Component-dyn g (c.loop-entry.shell.vtable, c.loop-entry.shell.value)).kept c.loop-entry.shell.value) c.args.lists.now c.loop-entry.lists c.args.entries.now c.loop-entry.entry-index c.entry-item.result c.loop-entry.invariant.loaded c.requires.given c.loop-entry-test.true c.entry-item.is c.loop-entry.invariant.gone

pub step_once-requires-clause-arrivals : goal.step_once-requires-clause-arrivals
step_once-requires-clause-arrivals g c = alone_arrives c.args.ports ((goal.Component-dyn g (c.loop-entry.shell.vtable, c.loop-entry.shell.value)).program c.loop-entry.shell.value) ((goal.Component-dyn g (c.args.shell.now.vtable, c.args.shell.now.value)).program c.args.shell.now.value) c.args.outlets.now ((goal.Component-dyn g (c.args.shell.now.vtable, c.args.shell.now.value)).kept c.args.shell.now.value) ((goal.Component-dyn g (c.loop-entry.shell.vtable, c.loop-entry.shell.value)).kept c.loop-entry.shell.value) c.args.lists.now c.loop-entry.lists c.args.entries.now c.loop-entry.entry-index c.entry-item.result c.loop-entry.invariant.loaded c.requires.given c.loop-entry-test.true c.entry-item.is c.loop-entry.invariant.gone c.requires.arrivals

pub step_once-requires-clause-places : goal.step_once-requires-clause-places
step_once-requires-clause-places g c = subst (λ n. All (λ o. o.place < n) c.args.outlets.now) (sym c.loop-entry.invariant.gone.count) c.requires.places

pub step_once-requires-clause-exact : goal.step_once-requires-clause-exact
step_once-requires-clause-exact g c = c.loop-entry.invariant.gone.exact

pub returns-in_err-step_once-clause-fault : goal.returns-in_err-step_once-clause-fault
returns-in_err-step_once-clause-fault g c =
    handed_on (λ (answer : Result (Unit {0}) EventFault). IfErr answer (λ fault. HasMet fault ((goal.Component-dyn g (c.args.shell.now.vtable, c.args.shell.now.value)).program c.args.shell.now.value) c.args.outlets.now ((goal.Component-dyn g (c.args.shell.now.vtable, c.args.shell.now.value)).kept c.args.shell.now.value) (read_lists c.args.lists.now) (one_by_one c.args.ports (entries_with_ids c.args.lists.now.records c.args.entries.now)))) c.from_residual.result c.in_err-step_once.field-0.0 c.from_residual.ensures.1
    (alone_met c.args.ports ((goal.Component-dyn g (c.loop-entry.shell.vtable, c.loop-entry.shell.value)).program c.loop-entry.shell.value) ((goal.Component-dyn g (c.args.shell.now.vtable, c.args.shell.now.value)).program c.args.shell.now.value) c.args.outlets.now ((goal.Component-dyn g (c.args.shell.now.vtable, c.args.shell.now.value)).kept c.args.shell.now.value) ((goal.Component-dyn g (c.loop-entry.shell.vtable, c.loop-entry.shell.value)).kept c.loop-entry.shell.value) c.args.lists.now c.loop-entry.lists c.args.entries.now c.loop-entry.entry-index c.entry-item.result c.loop-entry.invariant.loaded c.requires.given c.loop-entry-test.true c.entry-item.is c.loop-entry.invariant.gone c.in_err-step_once.field-0.0 c.in_err-step_once.ensures.fault)

pub loop-entry-init : goal.loop-entry-init
loop-entry-init g c = record { kind = refl; loaded = refl; gone = gone_none ((goal.Component-dyn g (c.args.shell.now.vtable, c.args.shell.now.value)).program c.args.shell.now.value) c.args.outlets.now ((goal.Component-dyn g (c.args.shell.now.vtable, c.args.shell.now.value)).kept c.args.shell.now.value) c.args.lists.now c.requires.exact c.known.ensures.few }

pub loop-entry-preserved : goal.loop-entry-preserved
loop-entry-preserved g c = record {
  kind = c.step_once.ensures.kind ∙ c.loop-entry.invariant.kind;
  loaded = c.step_once.ensures.loaded ∙ c.loop-entry.invariant.loaded;
  gone = alone_gone c.args.ports ((goal.Component-dyn g (c.loop-entry.shell.vtable, c.loop-entry.shell.value)).program c.loop-entry.shell.value) ((goal.Component-dyn g (c.args.shell.now.vtable, c.args.shell.now.value)).program c.args.shell.now.value) c.args.outlets.now ((goal.Component-dyn g (c.args.shell.now.vtable, c.args.shell.now.value)).kept c.args.shell.now.value) ((goal.Component-dyn g (c.loop-entry.shell.vtable, c.loop-entry.shell.value)).kept c.loop-entry.shell.value) c.args.lists.now c.loop-entry.lists c.args.entries.now c.loop-entry.entry-index c.entry-item.result c.loop-entry.invariant.loaded c.requires.given c.loop-entry-test.true c.entry-item.is c.loop-entry.invariant.gone ((goal.Component-dyn g (c.step_once.new.shell.vtable, c.step_once.new.shell.value)).kept c.step_once.new.shell.value) c.step_once.new.lists c.in_ok-step_once.ensures.ok;
}

pub returns-clause-ok : goal.returns-clause-ok
returns-clause-ok g c = alone_all c.args.ports ((goal.Component-dyn g (c.args.shell.now.vtable, c.args.shell.now.value)).program c.args.shell.now.value) c.args.outlets.now ((goal.Component-dyn g (c.args.shell.now.vtable, c.args.shell.now.value)).kept c.args.shell.now.value) ((goal.Component-dyn g (c.loop-entry.shell.vtable, c.loop-entry.shell.value)).kept c.loop-entry.shell.value) c.args.lists.now c.loop-entry.lists c.args.entries.now c.loop-entry.entry-index c.loop-entry-test.false c.loop-entry.invariant.gone
