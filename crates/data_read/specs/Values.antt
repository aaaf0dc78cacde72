-- The values of a record that JSON values give: None where one isn't of the form that is wanted.
use Rattle.std.specs.Prelude.{ℕ, Bool, ◌==◌, nat_le, List, [], ◌∷◌, length, Option, Some, None, option_map, option_and_then, if◌then◌else◌}
use Rattle.blz_value.specs.Record.{Row}
use Rattle.blz_value.specs.declared.value.Value.{Value}
use Rattle.blz_value.specs.declared.value.Value.TheVariants as values
use Rattle.serde_json.specs.Data.{Data, Items, no_items, item}
use Rattle.serde_json.specs.Events.{items_len}
use Rattle.serde_json.specs.Find.{as_number, as_i64, as_str, as_array}
use Rattle.topo_forms.specs.declared.topology.ColumnType.{ColumnType}
use Rattle.topo_forms.specs.declared.topology.ColumnType.TheVariants as types

-- goes on with what was given
infixl 10 ◌>>=◌
abbrev pub ◌>>=◌ : {A B : Type 0} → Option A → (A → Option B) → Option B
None >>= next = None
(Some x) >>= next = next x

-- x where the test holds
abbrev pub only_if : {X : Type 0} → Bool → X → Option X
only_if test x = if test then Some x else None

-- the first where there is one, else the second
abbrev pub or_else : {X : Type 0} → Option X → Option X → Option X
or_else None other = other
or_else (Some x) other = Some x

-- an integer that is an i64
abbrev pub int_in : Data → Option Value
int_in value = option_map values.Int (option_and_then as_i64 (as_number value))

-- a text of at most 64 bytes
abbrev pub short_text : List ℕ → Option Value
short_text text = only_if (nat_le (length text) 64) (values.Text text)

abbrev pub text_in : Data → Option Value
text_in value = as_str value >>= short_text

-- what a column of this type may hold
abbrev pub value_in : ColumnType → Data → Option Value
value_in types.Int value = int_in value
value_in types.Text value = text_in value
value_in types.Any value = or_else (int_in value) (text_in value)

-- values of these types, as far as they go
abbrev pub values_in : List ColumnType → Items → Option Row
values_in column_types no_items = Some []
values_in [] (item value rest) = None
values_in (column_type ∷ column_types) (item value rest) = do
  first ← value_in column_type value
  others ← values_in column_types rest
  Some (first ∷ others)

-- as many values as types, each of its type
abbrev pub row_in : List ColumnType → Items → Option Row
row_in column_types row = if items_len row == length column_types then values_in column_types row else None

-- a list of them
abbrev pub record_in : List ColumnType → Data → Option Row
record_in column_types value = as_array value >>= row_in column_types
