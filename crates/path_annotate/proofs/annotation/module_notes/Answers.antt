use Rattle.std.proofs.Common.{◌≡◌, ◌∙◌, ℕ, List, Option, map, subst}
use Rattle.std.specs.Prelude.{IfOk}
use Rattle.bloom_forms.specs.declared.note.Note.{Note}
use Rattle.path_annotate.specs.Code.ReadingUses.{path_note_from}
use Rattle.path_annotate.proofs.AnnotationCorrect.{notes-same}
use Rattle.path_annotate.proofs.annotation.module_notes.Goals as goal

pub returns : goal.returns
returns c =
    let names = c.args.names.now in
    let a = c.args.checked.now in
    let readings = c.in_ok-readings.ensures in
    let ports = c.deref.ensures.value ∙ c.in_ok-ports.ensures.numbers in
    let outputs = c.deref-2.ensures.value ∙ c.in_ok-outputs.ensures.numbers in
    let made = (λ i. map (λ (port : ℕ). map (path_note_from (readings i) port) (outputs i)) (ports i)) ∙ notes-same names a (c.module_numbers.ensures.checked) in
    subst (λ (wanted : List (List (Option Note))). IfOk c.ports_notes.result (λ notes. notes ≡ wanted)) made c.ports_notes.ensures
