use Rattle.std.proofs.Common.{◌≡◌, ◌∙◌, List, Err, length, ap, sym, subst}
use Rattle.bloom_forms.specs.declared.module.Collection.{Collection}
use Rattle.bloom_forms.specs.declared.module.Kind.TheVariants.{Output}
use Rattle.bloom_forms.specs.Form.{Form}
use Rattle.bloom_forms.specs.Step.{Sets, sets_of_kind}
use Rattle.bloom_eval.specs.Puts.{puts_in}
use Rattle.bloom_index.specs.Code.Arriving.{arrived_in}
use Rattle.bloom_index.specs.Code.Kept.{tables_in, PutsOut}
use Rattle.bloom_index.specs.Code.StepSets.{held_sets, outs_in}
use Rattle.bloom_index.proofs.Arriving.{step_fault_on}
use Rattle.bloom_index.proofs.step_ids.step_arrived.Goals as goal

pub returns-in_err-held : goal.returns-in_err-held
returns-in_err-held c =
    let a = c.args.program.now in
    let tables = tables_in a c.args.parts.now.rows.items in
    step_fault_on a tables c.step.new.parts (arrived_in c.args.now.now) c.args.pool.now c.args.entries.now c.args.puts.now c.from_residual.result c.in_err-held.field-0.0 c.from_residual.ensures.1 (λ e. c.in_err-held.ensures.too_many (ap Err e))

pub put_out-requires-clause-many : goal.put_out-requires-clause-many
put_out-requires-clause-many c =
    let same = c.as_slice-collections.ensures ∙ ap (λ (f : Form). f.collections) c.module-written.ensures.form in
    c.in_ok-held.ensures.many ∙ ap (length {A = Collection}) (sym same)

pub returns : goal.returns
returns c =
    let a = c.args.program.now in
    let tables = tables_in a c.args.parts.now.rows.items in
    let held = c.in_ok-held.held.items in
    let did = c.in_ok-held.ensures in
    let put = c.in_ok-put_out.ensures in
    let same = c.as_slice-collections.ensures ∙ ap (λ (f : Form). f.collections) c.module-written.ensures.form in
    let outs : puts_in c.args.pool.now c.put_out.new.puts ≡ outs_in a held = put.rows ∙ ap (λ (cs : List Collection). sets_of_kind Output cs (held_sets held)) same in
    record {
      parts = did.parts;
      tables_are = did.tables;
      outs = subst (λ (some : Sets). PutsOut a tables (arrived_in c.args.now.now) some) (sym outs) did.outs;
      ids = put.ids;
      few = did.few;
    }
