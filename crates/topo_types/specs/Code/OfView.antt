-- What the code asks of a component before it looks at its notes.
use Rattle.std.specs.Prelude.{◌≡◌, false, All}
use Rattle.topo_forms.specs.Sites.{Site}
use Rattle.topo_forms.specs.Validity.Unknown.{unknown_note}

-- each note is of a port and of an output that are there
abbrev pub HasKnownNotes : Site → Type 0
HasKnownNotes site = All (λ note. unknown_note site note ≡ false) site.entry.notes
