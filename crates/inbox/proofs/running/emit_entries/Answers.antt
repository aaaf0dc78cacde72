use Rattle.std.proofs.Common.{[], ◌∷◌}
use Rattle.blz_pool.specs.Entries.{entries_with_ids}
use Rattle.bloom_eval.specs.Arrivals.{timestep_of}
use Rattle.messages.specs.Lists.{read_lists}
use Rattle.messages.proofs.ListsLemmas.{few_read}
use Rattle.inbox.proofs.SettingOff.{emits_all, first_rows, first_messages, first_legal, sealed_none}
use Rattle.inbox.proofs.running.emit_entries.Goals as goal

pub returns-in_err-step_once-clause-rows : goal.returns-in_err-step_once-clause-rows
returns-in_err-step_once-clause-rows g c e =
    first_rows c.from_residual.result c.in_err-step_once.field-0.0 ((goal.Component-dyn g (c.args.shell.now.vtable, c.args.shell.now.value)).program c.args.shell.now.value) c.args.outlets.now ((goal.Component-dyn g (c.args.shell.now.vtable, c.args.shell.now.value)).kept c.args.shell.now.value) (read_lists c.args.lists.now) (record { steps = (timestep_of c.args.ports (entries_with_ids c.args.lists.now.records c.args.entries.now)) ∷ []; whole = [] }) c.from_residual.ensures.1 c.in_err-step_once.ensures.fault e

pub returns-in_err-step_once-clause-messages : goal.returns-in_err-step_once-clause-messages
returns-in_err-step_once-clause-messages g c e =
    first_messages c.from_residual.result c.in_err-step_once.field-0.0 ((goal.Component-dyn g (c.args.shell.now.vtable, c.args.shell.now.value)).program c.args.shell.now.value) c.args.outlets.now ((goal.Component-dyn g (c.args.shell.now.vtable, c.args.shell.now.value)).kept c.args.shell.now.value) (read_lists c.args.lists.now) (record { steps = (timestep_of c.args.ports (entries_with_ids c.args.lists.now.records c.args.entries.now)) ∷ []; whole = [] }) c.from_residual.ensures.1 c.in_err-step_once.ensures.fault e

pub returns-in_err-step_once-clause-legal : goal.returns-in_err-step_once-clause-legal
returns-in_err-step_once-clause-legal g c =
    first_legal c.from_residual.result c.in_err-step_once.field-0.0 ((goal.Component-dyn g (c.args.shell.now.vtable, c.args.shell.now.value)).program c.args.shell.now.value) c.args.outlets.now ((goal.Component-dyn g (c.args.shell.now.vtable, c.args.shell.now.value)).kept c.args.shell.now.value) (read_lists c.args.lists.now) (record { steps = (timestep_of c.args.ports (entries_with_ids c.args.lists.now.records c.args.entries.now)) ∷ []; whole = [] }) c.from_residual.ensures.1 c.in_err-step_once.ensures.fault

pub returns-clause-ok : goal.returns-clause-ok
returns-clause-ok g c =
    emits_all ((goal.Component-dyn g (c.args.shell.now.vtable, c.args.shell.now.value)).program c.args.shell.now.value) c.args.outlets.now ((goal.Component-dyn g (c.args.shell.now.vtable, c.args.shell.now.value)).kept c.args.shell.now.value) ((goal.Component-dyn g (c.step_once.new.shell.vtable, c.step_once.new.shell.value)).kept c.step_once.new.shell.value) (read_lists c.args.lists.now) (read_lists c.step_once.new.lists) (read_lists c.step_once.new.lists) (record { steps = (timestep_of c.args.ports (entries_with_ids c.args.lists.now.records c.args.entries.now)) ∷ []; whole = [] })
    c.in_ok-step_once.ensures.ok.goes (sealed_none c.args.outlets.now (read_lists c.step_once.new.lists)) (few_read c.step_once.new.lists c.in_ok-step_once.ensures.ok.few)

pub returns-clause-records : goal.returns-clause-records
returns-clause-records g c = c.in_ok-step_once.ensures.ok.records

pub returns-clause-exact : goal.returns-clause-exact
returns-clause-exact g c = c.in_ok-step_once.ensures.ok.exact

pub returns-clause-others : goal.returns-clause-others
returns-clause-others g c = c.in_ok-step_once.ensures.ok.others

pub returns-clause-count : goal.returns-clause-count
returns-clause-count g c = c.in_ok-step_once.ensures.ok.count

pub returns-clause-few : goal.returns-clause-few
returns-clause-few g c = c.in_ok-step_once.ensures.ok.few
