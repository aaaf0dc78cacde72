-- The ids of the records of an emitted list.
use Rattle.std.specs.Prelude.{ℕ, ◌==◌, ◌++◌, Bool, false, Option, Some, None, List, [], ◌∷◌, if◌then◌else◌}
use Rattle.std.specs.List.{list_any}
use Rattle.blz_value.specs.Record.{Row as Record}
use Rattle.blz_value.specs.Operators.{cells}
use Rattle.blz_value.specs.Message.{is_same_row}
use Rattle.blz_pool.specs.Entries.{row_with_id}
use Rattle.messages.specs.declared.message.Message.{Message as IdMessage}
use Rattle.messages.specs.declared.message.Message.TheVariants.{Row, Seal}

abbrev pub id_in : IdMessage → Option ℕ
id_in (Row id) = Some id
id_in (Seal key count) = None

-- the message is the record with this id
abbrev pub is_row_with : (id : ℕ) → IdMessage → Bool
is_row_with id (Row other) = id == other
is_row_with id (Seal key count) = false

-- the message is a seal of this partition
abbrev pub is_seal_of : (key : Record) → IdMessage → Bool
is_seal_of key (Row id) = false
is_seal_of key (Seal other count) = is_same_row key other

-- the record with an id is one of the partition, where the key has these columns; without an id none is
abbrev pub counts_row : List Record → (columns : List ℕ) → (key : Record) → Option ℕ → Bool
counts_row records columns key (Some id) = is_same_row (cells columns (row_with_id records id)) key
counts_row records columns key None = false

-- a list with a record at its end, unless it stands there
abbrev pub with_id : List IdMessage → (id : ℕ) → List IdMessage
with_id list id = if list_any (is_row_with id) list then list else list ++ Row id ∷ []
