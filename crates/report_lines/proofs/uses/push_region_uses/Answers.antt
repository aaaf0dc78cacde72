-- The note and the inputs are those of the region.
use Rattle.std.proofs.Common.{◌≡◌, ◌++◌, [], OnOk, subst, ◌∙◌}
use Rattle.std.specs.List.{flat_map}
use Rattle.bloom_forms.specs.declared.mode.Mode.TheVariants.{Free}
use Rattle.label_walk.specs.Paths.{region_at}
use Rattle.report_lines.specs.Code.Uses.{use_line as code_line}
use Rattle.report_lines.specs.DeriveText.{use_line, region_uses}
use Rattle.report_lines.specs.Words.{Text}
use Rattle.report_lines.proofs.uses.push_region_uses.Goals as goal

pub returns : goal.returns
unfolding region_uses
returns c =
    let v = c.args.report.now.valid.now.view in
    let labels = c.args.report.now.labels.now in
    let inputs = c.deref.ensures.value ∙ c.in_ok-inputs.ensures.inputs in
    let same : flat_map (λ input. use_line v labels c.in_ok-region_note.field-0 c.from_bits.result Free [] input.0 input.1) c.deref.result.now ≡ region_uses v labels (region_at v c.args.region) =
    λ i. flat_map (λ input. use_line v labels (c.in_ok-region_note.ensures i) (record { bits = c.from_bits.ensures i }) Free [] input.0 input.1) (inputs i) in
    subst (λ (uses : Text). OnOk c.push_inputs.result (c.push_inputs.new.text.items ≡ c.args.text.now.items ++ uses)) same c.push_inputs.ensures
