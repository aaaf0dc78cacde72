use Rattle.std.proofs.Common.{◌≡◌, sym, subst}
use Rattle.std.specs.Prelude.{IfOk}
use Rattle.bloom_forms.specs.declared.program.Program.{Program}
use Rattle.bloom_forms.specs.Annotation.{notes_of}
use Rattle.bloom_forms.proofs.Combining.AnnotationLemmas.{each_note}
use Rattle.path_annotate.proofs.annotation.annotate.Goals as goal

pub returns-in-Module-clause-each : goal.returns-in-Module-clause-each
returns-in-Module-clause-each c =
    each_note _ c.args.names.now c.args.program.now c.module_notes.result
    (subst (λ (program : Program). IfOk c.module_notes.result (λ notes. notes ≡ notes_of c.args.names.now program)) (sym c.in-Module.is) c.module_notes.ensures)
