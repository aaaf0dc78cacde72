-- A message is a record, or the seal of a partition.
use Rattle.std.specs.Prelude.{ℕ, Bool, Option, None, Some, List}
use Rattle.std.specs.List.{filter_map}
use Rattle.std.specs.Ordering.{eq_by_cmp}
use Rattle.blz_value.specs.Record.{Row, record_cmp}

-- a record, or a seal: a key value with the number of its records
pub data Message : Type 0 where
  row : Row → Message
  seal : Row → ℕ → Message

abbrev pub is_same_row : Row → Row → Bool
is_same_row a b = eq_by_cmp record_cmp a b

-- the record of a message, where it is one
abbrev pub row_in : Message → Option Row
row_in (row r) = Some r
row_in (seal value count) = None

-- the records of an emitted list
abbrev pub rows_in : List Message → List Row
rows_in messages = filter_map row_in messages
