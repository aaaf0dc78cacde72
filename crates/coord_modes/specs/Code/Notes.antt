-- The O notes of a component, row by row.
use Rattle.std.specs.Prelude.{Bool, false, not, Option, List}
use Rattle.std.specs.List.{list_any}
use Rattle.std.specs.Option.{option_map_or}
use Rattle.bloom_forms.specs.declared.note.Note.{Note}
use Rattle.topo_forms.specs.Carried.{is_confluent}

-- there is a note, and it is O
abbrev pub is_order_note : Option Note → Bool
is_order_note note = option_map_or (λ n. not (is_confluent n)) note false

-- a note of a port is O
abbrev pub has_order_in : List (Option Note) → Bool
has_order_in row = list_any is_order_note row
