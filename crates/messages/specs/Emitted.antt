-- An emitted list has each record once, and each partition has one seal in it, with the number of its records.
use Rattle.std.specs.Prelude.{◌≡◌, ℕ, ◌++◌, Bool, if◌then◌else◌, Option, Some, None, List, [], ◌∷◌, filter, length}
use Rattle.std.specs.List.{list_any, fold}
use Rattle.blz_value.specs.Record.{Row}
use Rattle.blz_value.specs.Operators.{cells}
use Rattle.blz_value.specs.Message.{Message, row, seal, is_same_row, rows_in}
use Rattle.messages.specs.Messages.{is_same_message, sealed_in, with_new}

-- the second list begins with the first
pub record Continues {X : Type 0} (xs ys : List X) : Type 0 where
  pub more : List X
  pub with_more : xs ++ more ≡ ys

-- a seal of the partition stands in the list
abbrev pub has_seal : List Message → (key : Row) → Bool
has_seal list key = list_any (is_same_row key) (sealed_in list)

-- a list with a row at its end, unless it stands there
abbrev pub with_row : List Message → Row → List Message
with_row list r = with_new is_same_message list (row r)

-- a list with the rows of a set that aren't in it yet, in record order
abbrev pub with_rows : List Message → List Row → List Message
with_rows list rows = fold with_row list rows

-- how many records of a partition stand in a list, where the key has these places
abbrev pub count_in : List ℕ → List Message → (key : Row) → ℕ
count_in places list key = length (filter (λ r. is_same_row (cells places r) key) (rows_in list))

-- a list with a seal of a partition, unless one stands there
abbrev pub with_seal : List ℕ → List Message → (key : Row) → List Message
with_seal places list key = if has_seal list key then list else list ++ seal key (count_in places list key) ∷ []

-- a list with seals of these partitions, where the output carries the key
abbrev pub with_seals : Option (List ℕ) → List Message → List Row → List Message
with_seals None list keys = list
with_seals (Some places) list keys = fold (with_seal places) list keys
