-- the notes of the components so far
use Rattle.std.proofs.Common.{◌≡◌, fold, take}
use Rattle.std.specs.List.{flat_map}
use Rattle.bloom_forms.specs.declared.note.Note.TheVariants.{CR}
use Rattle.bloom_forms.specs.Note.{combine}
use Rattle.label_walk.specs.Paths.{notes_in}
use Rattle.label_walk.proofs.cycles.note_of_all.Given as goal

abbrev pub invariant-loop-component : goal.invariant-loop-component
invariant-loop-component l = l.note ≡ fold combine CR (flat_map (notes_in l.valid.view) (take l.component-index l.components))
