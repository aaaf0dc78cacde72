use Rattle.std.proofs.Common.{◌≡◌, ◌∙◌, List, ap, sym, subst}
use Rattle.bloom_forms.specs.declared.module.Kind.TheVariants.{Table}
use Rattle.bloom_forms.specs.declared.module.Collection.{Collection}
use Rattle.bloom_forms.specs.Form.{Form, Accepted}
use Rattle.bloom_forms.specs.Program.{columns_of_kind}
use Rattle.bloom_forms.specs.Step.{Sets}
use Rattle.bloom_forms.specs.Widths.{AreSetsOf}
use Rattle.bloom_eval.proofs.EmptyTables.{empties_wide}
use Rattle.blz_boxes.proofs.Tables.{empties}
use Rattle.blz_boxes.proofs.plain.PlainBody.new.Goals as goal

pub invariant_of-result : goal.invariant_of-result
invariant_of-result c =
    let cs = c.in_ok-copy.field-0.form.collections in
    let same : c.as_slice.result.now ≡ cs = c.as_slice.ensures ∙ ap (λ (form : Form). form.collections) c.module.ensures.form ∙ sym (ap (λ (a : Accepted). a.form.collections) c.in_ok-copy.ensures) in
    record { tables = subst (λ (sets : Sets). AreSetsOf (columns_of_kind Table cs) sets) (sym (c.in_ok-kept.ensures ∙ ap (λ (own : List Collection). empties own) same)) (empties_wide (columns_of_kind Table cs)) }
