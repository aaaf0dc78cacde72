-- The roots and the gates of all outputs of a program.
use Rattle.std.specs.Prelude.{ℕ, List, map, length}
use Rattle.std.specs.List.{range_with_len}
use Rattle.bloom_forms.specs.declared.program.Program.{Program}
use Rattle.bloom_forms.specs.Program.{output_columns}
use Rattle.bloom_forms.specs.Query.{Name}
use Rattle.bloom_forms.specs.Annotation.{roots_of_output, gate_of_output}
use Rattle.bloom_forms.specs.Roots.{Roots}

-- the root of each column of each output
abbrev pub roots_of_outputs : (names : List Name) → Program → List Roots
roots_of_outputs names program = map (roots_of_output names program) (range_with_len 0 (length (output_columns program)))

-- the gate of each output
abbrev pub gates_of_outputs : (names : List Name) → Program → List ℕ
gates_of_outputs names program = map (gate_of_output names program) (range_with_len 0 (length (output_columns program)))
