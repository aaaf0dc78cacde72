use Rattle.std.proofs.Common.{◌≤◌, ◌<◌, ◌∙◌, List, length, sym, subst, arith}
use Rattle.blz_pool.specs.Entries.{EntryId, entries_with_ids}
use Rattle.bloom_forms.specs.declared.module.Kind.TheVariants.{Input}
use Rattle.bloom_forms.specs.Program.{columns_of_kind}
use Rattle.bloom_forms.specs.Step.{Sets}
use Rattle.bloom_forms.specs.Widths.{AreSetsOf}
use Rattle.bloom_eval.specs.Arrivals.{timestep_of}
use Rattle.bloom_index.specs.Code.Kept.{tables_in}
use Rattle.bloom_index.specs.Code.Steps.{StepsTo}
use Rattle.bloom_index.proofs.Arriving.{lone_entry, lone_given}
use Rattle.bloom_index.proofs.step_ids.step_by_ids.Goals as goal

pub step_one-requires-clause-given : goal.step_one-requires-clause-given
step_one-requires-clause-given c =
    let least : 1 ≤ length c.args.entries.now = omega arith in
    let below : length c.args.entries.now < 2 = omega arith in
    lone_given c.args.entries.now c.entry-item.result (length c.args.pool.now) (lone_entry c.args.entries.now c.entry-item.result least below c.entry-item.is) c.requires.given

pub step_one-requires-clause-ports : goal.step_one-requires-clause-ports
step_one-requires-clause-ports c =
    let least : 1 ≤ length c.args.entries.now = omega arith in
    let below : length c.args.entries.now < 2 = omega arith in
    subst (λ (l : List EntryId). AreSetsOf (columns_of_kind Input c.args.program.now.form.collections) (timestep_of c.args.ports (entries_with_ids c.args.pool.now l))) (lone_entry c.args.entries.now c.entry-item.result least below c.entry-item.is) c.requires.ports

pub returns-in-len1 : goal.returns-in-len1
returns-in-len1 c =
    let a = c.args.program.now in
    let least : 1 ≤ length c.args.entries.now = omega arith in
    let below : length c.args.entries.now < 2 = omega arith in
    subst (λ (l : List EntryId). StepsTo a (tables_in a c.args.parts.now.rows.items) c.step_one.new.parts (timestep_of c.args.ports (entries_with_ids c.args.pool.now l)) c.args.pool.now l c.step_one.new.puts c.step_one.result)
    (sym (lone_entry c.args.entries.now c.entry-item.result least below c.entry-item.is)) c.step_one.ensures

pub step_arrived-requires-clause-ports : goal.step_arrived-requires-clause-ports
step_arrived-requires-clause-ports c =
    subst (λ (now : Sets). AreSetsOf (columns_of_kind Input c.args.program.now.form.collections) now) (sym (c.sets.ensures ∙ c.in_ok-now.ensures)) c.requires.ports

pub returns : goal.returns
returns c =
    let a = c.args.program.now in
    subst (λ (now : Sets). StepsTo a (tables_in a c.args.parts.now.rows.items) c.step_arrived.new.parts now c.args.pool.now c.args.entries.now c.step_arrived.new.puts c.step_arrived.result) (c.sets.ensures ∙ c.in_ok-now.ensures) c.step_arrived.ensures
