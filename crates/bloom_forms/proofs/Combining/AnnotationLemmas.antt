-- Each note of a program stands at its port and output.
use Rattle.std.specs.Prelude.{IfOk}
use Rattle.std.proofs.Common.{◌≡◌, ◌<◌, ℕ, List, [], Option, None, Result, Ok, Err, length, map, get_or, ap, ◌∙◌, arith}
use Rattle.std.specs.List.{range_with_len}
use Rattle.std.proofs.lemmas.List.FromFn.{get_or-map-range_with_len}
use Rattle.bloom_forms.specs.declared.program.Program.{Program}
use Rattle.bloom_forms.specs.Program.{port_columns, output_columns}
use Rattle.bloom_forms.specs.Query.{Name}
use Rattle.bloom_forms.specs.declared.note.Note.{Note}
use Rattle.bloom_forms.specs.Annotation.{note_of, notes_of, note_at}

pub note_at-is : (names : List Name) (program : Program) (port output : ℕ) → port < length (port_columns program) → output < length (output_columns program) → note_at (notes_of names program) port output ≡ note_of names program port output
note_at-is names program port output below within =
    ap (λ (row : List (Option Note)). get_or row output None) (get_or-map-range_with_len (λ (p : ℕ). map (note_of names program p) (range_with_len 0 (length (output_columns program)))) 0 (length (port_columns program)) port port [] below (omega arith))
    ∙ get_or-map-range_with_len (note_of names program port) 0 (length (output_columns program)) output output None within (omega arith)

-- the same of notes that were answered
pub each_note : (E : Type 0) (names : List Name) (program : Program) (r : Result (List (List (Option Note))) E) → IfOk r (λ notes. notes ≡ notes_of names program)
    → IfOk r (λ notes. (port output : ℕ) → port < length (port_columns program) → output < length (output_columns program) → note_at notes port output ≡ note_of names program port output)
each_note E names program (Ok notes) is = λ port output below within. ap (λ (all : List (List (Option Note))). note_at all port output) is ∙ note_at-is names program port output below within
each_note E names program (Err e) is = tt

-- ---- as many as ports and outputs

-- the notes of one port
abbrev port_notes : (names : List Name) → Program → ℕ → List (Option Note)
port_notes names program port = map (note_of names program port) (range_with_len 0 (length (output_columns program)))
