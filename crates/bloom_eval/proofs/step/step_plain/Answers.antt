use Rattle.std.proofs.Common.{◌∙◌, List, length, Ok, ap, sym, subst}
use Rattle.std.proofs.lemmas.List.{length-map}
use Rattle.bloom_forms.specs.declared.module.Kind.TheVariants.{Input, Output, Table}
use Rattle.bloom_forms.specs.declared.module.Collection.{Collection}
use Rattle.bloom_forms.specs.Form.{Form}
use Rattle.bloom_forms.specs.Kinds.{of_kind}
use Rattle.bloom_forms.specs.Program.{columns_of_kind}
use Rattle.bloom_forms.specs.Step.{Sets, at_start, sets_of_kind}
use Rattle.bloom_eval.specs.Code.Held.{rows_in, sets_in}
use Rattle.bloom_forms.specs.Widths.{AreSetsOf}
use Rattle.bloom_eval.specs.Taken.{AreBegun, TakesHeads}
use Rattle.bloom_eval.proofs.Runnable.{runnable}
use Rattle.bloom_eval.proofs.Widths.{length-sets_of, length-sets_of_all, kinds_wide, are_begun, left_wide}
use Rattle.bloom_eval.proofs.step.step_plain.Goals as goal

pub begin-requires-clause-tables : goal.begin-requires-clause-tables
begin-requires-clause-tables c =
    let cs = c.args.program.now.form.collections in
    let same = c.as_slice-collections.ensures ∙ ap (λ (f : Form). f.collections) c.module-written.ensures.form in
    length-sets_of (columns_of_kind Table cs) c.args.kept.now c.requires.tables
    ∙ length-map (of_kind Table cs) (λ (d : Collection). d.columns)
    ∙ sym (ap (λ own. length (of_kind Table own)) same)

pub begin-requires-clause-ports : goal.begin-requires-clause-ports
begin-requires-clause-ports c =
    let cs = c.args.program.now.form.collections in
    let same = c.as_slice-collections.ensures ∙ ap (λ (f : Form). f.collections) c.module-written.ensures.form in
    ap length c.sets.ensures
    ∙ length-sets_of (columns_of_kind Input cs) c.args.now.now c.requires.ports
    ∙ length-map (of_kind Input cs) (λ (d : Collection). d.columns)
    ∙ sym (ap (λ own. length (of_kind Input own)) same)

pub returns-in_err-held-clause-tables : goal.returns-in_err-held-clause-tables
returns-in_err-held-clause-tables c = left_wide (columns_of_kind Table c.args.program.now.form.collections) c.args.kept.now c.begin.new.kept c.in_err-held.ensures.left c.requires.tables

pub take_heads-requires-clause-runnable : goal.take_heads-requires-clause-runnable
take_heads-requires-clause-runnable c = runnable c.args.program.now c.module-written.ensures.checked

pub take_heads-requires-clause-begun : goal.take_heads-requires-clause-begun
take_heads-requires-clause-begun c =
    let cs = c.args.program.now.form.collections in
    let same = c.as_slice-collections.ensures ∙ ap (λ (f : Form). f.collections) c.module-written.ensures.form in
    let begun = c.in_ok-held.ensures.begun ∙ (λ i. at_start (same i) c.args.kept.now (c.sets.ensures i)) in
    subst (λ (held : Sets). AreBegun cs held) (sym begun) (are_begun cs c.args.kept.now c.args.now.now c.requires.tables c.requires.ports)

pub returns-in_err-take_heads-clause-tables : goal.returns-in_err-take_heads-clause-tables
returns-in_err-take_heads-clause-tables c = left_wide (columns_of_kind Table c.args.program.now.form.collections) c.args.kept.now c.begin.new.kept c.in_ok-held.ensures.left c.requires.tables

pub finish-requires : goal.finish-requires
finish-requires c =
    sym (length-map c.take_heads.new.held.items rows_in)
    ∙ length-sets_of_all c.args.program.now.form.collections (sets_in c.take_heads.new.held.items) c.in_ok-take_heads.ensures.wide
    ∙ sym (ap length (c.as_slice-collections.ensures ∙ ap (λ (f : Form). f.collections) c.module-written.ensures.form))

pub returns-in_err-tables-clause-tables : goal.returns-in_err-tables-clause-tables
returns-in_err-tables-clause-tables c = left_wide (columns_of_kind Table c.args.program.now.form.collections) c.args.kept.now c.begin.new.kept c.in_ok-held.ensures.left c.requires.tables

pub returns-clause-step : goal.returns-clause-step
returns-clause-step c =
    let cs = c.args.program.now.form.collections in
    let same = c.as_slice-collections.ensures ∙ ap (λ (f : Form). f.collections) c.module-written.ensures.form in
    let begun = c.in_ok-held.ensures.begun ∙ (λ i. at_start (same i) c.args.kept.now (c.sets.ensures i)) in
    let end = sets_in c.take_heads.new.held.items in
    let taken : TakesHeads {X = Unit {0}} c.args.program.now (at_start cs c.args.kept.now c.args.now.now) end (Ok (tt {0})) = subst (λ (held : Sets). TakesHeads {X = Unit {0}} c.args.program.now held end (Ok (tt {0}))) begun c.in_ok-take_heads.ensures.taken in
    (c.in_ok-tables.ensures.tables ∙ (λ i. sets_of_kind Table (same i) (taken.0 i)), c.in_ok-tables.ensures.outs ∙ (λ i. sets_of_kind Output (same i) (taken.0 i)), taken.1)

pub returns-clause-tables : goal.returns-clause-tables
returns-clause-tables c =
    let cs = c.args.program.now.form.collections in
    let end = sets_in c.take_heads.new.held.items in
    subst (λ (sets : Sets). AreSetsOf (columns_of_kind Table cs) sets) (sym (c.in_ok-tables.ensures.tables ∙ ap (λ (own : List Collection). sets_of_kind Table own end) (c.as_slice-collections.ensures ∙ ap (λ (f : Form). f.collections) c.module-written.ensures.form)))
    (kinds_wide Table cs end c.in_ok-take_heads.ensures.wide)
