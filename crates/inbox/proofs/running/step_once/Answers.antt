use Rattle.std.proofs.Common.{Err, ◌∙◌, ap, [], ◌∷◌}
use Rattle.std.specs.Prelude.{Result, IfErr}
use Rattle.blz_pool.specs.Entries.{entries_with_ids}
use Rattle.bloom_eval.specs.Arrivals.{timestep_of}
use Rattle.bloom_eval.specs.Puts.{puts_in}
use Rattle.bloom_eval.specs.declared.fault.StepFault.{StepFault}
use Rattle.messages.specs.Lists.{read_lists}
use Rattle.messages.specs.declared.fault.EventFault.{EventFault}
use Rattle.messages.proofs.FaultLemmas.{handed_on}
use Rattle.inbox.specs.Running.{HasMet}
use Rattle.inbox.proofs.RunningLemmas.{gone_one, met_emitting}
use Rattle.inbox.proofs.SteppedByIds.{called_given, called_arrives, put_from, stepped_changes, stepped_rows, stepped_tables}
use Rattle.inbox.proofs.running.step_once.Goals as goal

pub step_shell-requires-clause-given : goal.step_shell-requires-clause-given
step_shell-requires-clause-given g c = called_given c.pool.result.now c.args.lists.now.records c.pool.ensures ((goal.Component-dyn g (c.args.shell.now.vtable, c.args.shell.now.value)).program c.args.shell.now.value) ((goal.Component-dyn g (c.args.shell.now.vtable, c.args.shell.now.value)).kept c.args.shell.now.value) c.args.ports c.args.entries.now c.requires.given

pub step_shell-requires-clause-arrivals : goal.step_shell-requires-clause-arrivals
step_shell-requires-clause-arrivals g c = called_arrives c.pool.result.now c.args.lists.now.records c.pool.ensures ((goal.Component-dyn g (c.args.shell.now.vtable, c.args.shell.now.value)).program c.args.shell.now.value) ((goal.Component-dyn g (c.args.shell.now.vtable, c.args.shell.now.value)).kept c.args.shell.now.value) c.args.ports c.args.entries.now c.requires.arrivals

pub emit_puts-requires-clause-given : goal.emit_puts-requires-clause-given
emit_puts-requires-clause-given g c = put_from c.pool.result.now c.args.lists.now.records c.pool.ensures ((goal.Component-dyn g (c.args.shell.now.vtable, c.args.shell.now.value)).program c.args.shell.now.value) ((goal.Component-dyn g (c.args.shell.now.vtable, c.args.shell.now.value)).kept c.args.shell.now.value) c.args.ports c.args.entries.now c.step_shell.new.puts c.in-Ok.ensures.ids

pub returns-in_err-emit_puts-in-Ok-clause-fault : goal.returns-in_err-emit_puts-in-Ok-clause-fault
returns-in_err-emit_puts-in-Ok-clause-fault g c =
    handed_on (λ (answer : Result (Unit {0}) EventFault). IfErr answer (λ fault. HasMet fault ((goal.Component-dyn g (c.args.shell.now.vtable, c.args.shell.now.value)).program c.args.shell.now.value) c.args.outlets.now ((goal.Component-dyn g (c.args.shell.now.vtable, c.args.shell.now.value)).kept c.args.shell.now.value) (read_lists c.args.lists.now) ((timestep_of c.args.ports (entries_with_ids c.args.lists.now.records c.args.entries.now)) ∷ []))) c.from_residual.result c.in_err-emit_puts-in-Ok.field-0.0 c.from_residual.ensures.1
    (met_emitting c.in_err-emit_puts-in-Ok.field-0.0 ((goal.Component-dyn g (c.args.shell.now.vtable, c.args.shell.now.value)).program c.args.shell.now.value) c.args.outlets.now ((goal.Component-dyn g (c.args.shell.now.vtable, c.args.shell.now.value)).kept c.args.shell.now.value) (read_lists c.args.lists.now) (timestep_of c.args.ports (entries_with_ids c.args.lists.now.records c.args.entries.now)) (puts_in c.args.lists.now.records c.step_shell.new.puts) c.in_err-emit_puts-in-Ok.ensures.legal
    (stepped_changes c.pool.result.now c.args.lists.now.records c.pool.ensures ((goal.Component-dyn g (c.args.shell.now.vtable, c.args.shell.now.value)).program c.args.shell.now.value) ((goal.Component-dyn g (c.args.shell.now.vtable, c.args.shell.now.value)).kept c.args.shell.now.value) c.args.ports c.args.entries.now c.step_shell.new.puts c.in-Ok.ensures.few c.in-Ok.ensures.outs c.are_sets.ensures) (λ e. c.emit_puts.ensures.too_many (c.in_err-emit_puts-in-Ok.was ∙ ap (λ (f : EventFault). Err f) e)))

pub returns-in_ok-emit_puts-in-Ok-clause-ok : goal.returns-in_ok-emit_puts-in-Ok-clause-ok
returns-in_ok-emit_puts-in-Ok-clause-ok g c =
    gone_one ((goal.Component-dyn g (c.args.shell.now.vtable, c.args.shell.now.value)).program c.args.shell.now.value) c.args.outlets.now ((goal.Component-dyn g (c.args.shell.now.vtable, c.args.shell.now.value)).kept c.args.shell.now.value) ((goal.Component-dyn g (c.step_shell.new.shell.vtable, c.step_shell.new.shell.value)).kept c.step_shell.new.shell.value) c.args.lists.now c.emit_puts.new.lists (timestep_of c.args.ports (entries_with_ids c.args.lists.now.records c.args.entries.now))
    (record { kept = stepped_tables c.pool.result.now c.args.lists.now.records c.pool.ensures ((goal.Component-dyn g (c.args.shell.now.vtable, c.args.shell.now.value)).program c.args.shell.now.value) ((goal.Component-dyn g (c.args.shell.now.vtable, c.args.shell.now.value)).kept c.args.shell.now.value) c.args.ports c.args.entries.now ((goal.Component-dyn g (c.step_shell.new.shell.vtable, c.step_shell.new.shell.value)).kept c.step_shell.new.shell.value) c.in-Ok.ensures.kept; some = puts_in c.args.lists.now.records c.step_shell.new.puts; step = (stepped_changes c.pool.result.now c.args.lists.now.records c.pool.ensures ((goal.Component-dyn g (c.args.shell.now.vtable, c.args.shell.now.value)).program c.args.shell.now.value) ((goal.Component-dyn g (c.args.shell.now.vtable, c.args.shell.now.value)).kept c.args.shell.now.value) c.args.ports c.args.entries.now c.step_shell.new.puts c.in-Ok.ensures.few c.in-Ok.ensures.outs c.are_sets.ensures); lists = c.in_ok-emit_puts-in-Ok.ensures.ok })
    c.in_ok-emit_puts-in-Ok.ensures.records c.in_ok-emit_puts-in-Ok.ensures.exact c.in_ok-emit_puts-in-Ok.ensures.count c.in_ok-emit_puts-in-Ok.ensures.few

pub returns-in-Err-TooManyRows-clause-fault : goal.returns-in-Err-TooManyRows-clause-fault
returns-in-Err-TooManyRows-clause-fault g c = stepped_rows c.pool.result.now c.args.lists.now.records c.pool.ensures ((goal.Component-dyn g (c.args.shell.now.vtable, c.args.shell.now.value)).program c.args.shell.now.value) ((goal.Component-dyn g (c.args.shell.now.vtable, c.args.shell.now.value)).kept c.args.shell.now.value) c.args.ports c.args.entries.now c.args.outlets.now (read_lists c.args.lists.now) (c.in-Err-TooManyRows.ensures.rows (ap (λ (f : StepFault). Err f) c.in-Err-TooManyRows.field-0-is))
