-- The notes are those of the members.
use Rattle.std.proofs.Common.{ℕ, List, fold, ap, ◌∙◌}
use Rattle.std.specs.List.{flat_map}
use Rattle.bloom_forms.specs.declared.note.Note.{Note}
use Rattle.bloom_forms.specs.declared.note.Note.TheVariants.{CR}
use Rattle.bloom_forms.specs.Note.{combine}
use Rattle.label_walk.specs.Paths.{notes_in, without_gate}
use Rattle.label_walk.proofs.cycles.region_note.Goals as goal

pub returns : goal.returns
returns c =
    c.without_gate.ensures ∙ ap (λ (note : Note). without_gate note) (c.note_of_all.ensures
    ∙ ap (λ (members : List ℕ). fold combine CR (flat_map (notes_in c.args.valid.now.view) members)) (c.deref.ensures.value ∙ c.in_ok-members.ensures.members))
