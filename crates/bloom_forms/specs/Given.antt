-- What ports are given: by a rule, or by the notes of an output.
use Rattle.std.specs.Prelude.{ℕ, ◌≡◌, ◌<◌, Bool, false, Option, None, IfSome, is_some, length}
use Rattle.std.specs.Option.{option_map_or}
use Rattle.bloom_forms.specs.declared.program.Program.{Program}
use Rattle.bloom_forms.specs.Program.{port_columns}
use Rattle.bloom_forms.specs.declared.note.Note.{Note}
use Rattle.bloom_forms.specs.Note.{own_gate, is_write}

-- what a port is given is O; it is W
abbrev pub is_o : Option Note → Bool
is_o given = option_map_or (λ note. is_some (own_gate note)) given false

abbrev pub is_w : Option Note → Bool
is_w given = option_map_or is_write given false

-- what each port is given, if anything, is CR or CW
abbrev pub AreAllC : Program → (given : (port : ℕ) → Option Note) → Type 0
AreAllC program given = (port : ℕ) → port < length (port_columns program) → IfSome (given port) (λ note. own_gate note ≡ None)
