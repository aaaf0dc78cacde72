use Rattle.std.proofs.Common.{◌∙◌, ℕ, length, map, ap, sym}
use Rattle.bloom_forms.specs.declared.module.Kind.TheVariants.{Output}
use Rattle.bloom_forms.specs.KindNumbers.{numbers_of_kind}
use Rattle.blz_value.specs.declared.attrs.Attrs.{Attrs}
use Rattle.blz_value.proofs.Lists.{map_same as map-same}
use Rattle.bloom_forms.specs.Gates.{head_gate}
use Rattle.bloom_forms.specs.HeadRoots.{roots_numbered, roots_table}
use Rattle.bloom_forms.proofs.ByNumber.NumbersLemmas.{map-places, length_numbers_of_kind}
use Rattle.path_facts.specs.declared.readings.Readings.{Readings}
use Rattle.path_annotate.specs.Code.ReadingUses.{gate_towards, path_note_from}
use Rattle.path_annotate.proofs.AnnotationCorrect.{head_gate-same, notes-same}
use Rattle.path_annotate.proofs.facts.module_facts.Goals as goal

pub returns-clause-notes : goal.returns-clause-notes
returns-clause-notes c =
    let names = c.args.names.now in
    let a = c.args.checked.now in
    let readings = c.in_ok-readings.ensures in
    let ports = c.deref-2.ensures.value ∙ c.in_ok-ports.ensures.numbers in
    let outputs = c.deref-3.ensures.value ∙ c.in_ok-outputs.ensures.numbers in
    c.in_ok-notes.ensures ∙ (λ i. map (λ (port : ℕ). map (path_note_from (readings i) port) (outputs i)) (ports i)) ∙ notes-same names a c.module_numbers.ensures.checked

pub returns-clause-roots : goal.returns-clause-roots
returns-clause-roots c =
    let names = c.args.names.now in
    let a = c.args.checked.now in
    let cs = a.form.collections in
    let table = c.deref-4.ensures.value ∙ c.in_ok-table.ensures in
    let outputs = c.deref-5.ensures.value ∙ c.in_ok-outputs.ensures.numbers in
    c.from_vec.ensures
    ∙ c.in_ok-roots.ensures
    ∙ (λ i. map (roots_numbered (table i)) (outputs i))
    ∙ sym (map-places (roots_numbered (roots_table names a)) (length cs) (numbers_of_kind Output cs) _ (length_numbers_of_kind Output cs))

pub returns-clause-gates : goal.returns-clause-gates
returns-clause-gates c =
    let names = c.args.names.now in
    let a = c.args.checked.now in
    let cs = a.form.collections in
    let all = c.all_attributes-all.ensures in
    let read = c.as_slice.ensures ∙ ap (λ (readings : Readings). readings.rules) c.in_ok-readings.ensures in
    let outputs = c.deref-6.ensures.value ∙ c.in_ok-outputs.ensures.numbers in
    ap (map (λ (gate : Attrs). gate.bits)) c.from_vec-2.ensures
    ∙ c.in_ok-gates.ensures
    ∙ (λ i. map (λ (n : ℕ). gate_towards (all i) n (read i)) (outputs i))
    ∙ map-same _ _ (head_gate-same names a c.module_numbers.ensures.checked) (numbers_of_kind Output cs)
    ∙ sym (map-places (head_gate names a.form (roots_table names a)) (length cs) (numbers_of_kind Output cs) _ (length_numbers_of_kind Output cs))
