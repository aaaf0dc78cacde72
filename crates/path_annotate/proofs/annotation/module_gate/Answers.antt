use Rattle.std.proofs.Common.{◌∙◌, ap}
use Rattle.bloom_forms.specs.declared.module.Kind.TheVariants.{Output}
use Rattle.bloom_forms.specs.KindNumbers.{number_in_kind}
use Rattle.path_facts.specs.declared.readings.Readings.{Readings}
use Rattle.path_annotate.specs.Code.ReadingUses.{gate_towards}
use Rattle.path_annotate.proofs.AnnotationCorrect.{head_gate-same}
use Rattle.path_annotate.proofs.annotation.module_gate.Goals as goal

pub returns : goal.returns
returns c =
    let names = c.args.names.now in
    let a = c.args.checked.now in
    let output = number_in_kind Output a.form.collections c.args.output in
    let read = c.as_slice.ensures ∙ ap (λ (readings : Readings). readings.rules) c.in_ok-readings.ensures in
    let all = c.all_attributes-all.ensures in
    let number = c.in_ok-number.ensures.number in
    c.output_gate.ensures ∙ (λ i. gate_towards (all i) (number i) (read i)) ∙ head_gate-same names a (c.output_number.ensures.checked) output
