use Rattle.std.proofs.Common.{◌≡◌, ◌∙◌, map, ap, subst}
use Rattle.std.specs.Prelude.{IfOk}
use Rattle.bloom_forms.specs.Form.{Form}
use Rattle.bloom_forms.proofs.Collections.Small as small
use Rattle.path_facts.specs.declared.readings.Readings.{Readings}
use Rattle.path_annotate.specs.Code.ByNumber.{facts_by}
use Rattle.path_facts.specs.Readings.{readings_from}
use Rattle.path_annotate.proofs.ReadingsCorrect.{facts-same, readings-same}
use Rattle.path_annotate.proofs.readings.readings_with.Goals as goal

pub returns : goal.returns
returns c =
    let names = c.args.names.now in
    let a = c.args.checked.now in
    let rules = c.rules.result.now in
    let few = small.few a.form a.heads c.module.ensures.checked in
    let cs = c.as_slice-collections.ensures ∙ ap (λ (form : Form). form.collections) c.module.ensures.form in
    let all = c.all_attributes-all.ensures in
    let table = c.requires in
    let seen = c.deref.ensures.value ∙ c.in_ok-facts.ensures ∙ (λ i. map (facts_by (all i) (table i)) rules) ∙ facts-same names a rules c.rules.ensures.numbered in
    subst (λ (wanted : Readings). IfOk c.readings_from.result (λ readings. readings ≡ wanted)) ((λ i. readings_from (cs i) (all i) (seen i)) ∙ readings-same names a few) c.readings_from.ensures
