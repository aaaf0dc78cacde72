-- The two lists of a source's entry.
use Rattle.std.specs.Prelude.{Bool, true, false, List, [], ◌∷◌, Option, Some, None, option_map, if◌then◌else◌, codes}
use Rattle.bloom_forms.specs.Query.{Name}
use Rattle.serde_json.specs.Data.{Data, Items, no_items}
use Rattle.serde_json.specs.Find.{get, as_array, as_object}
use Rattle.data_read.specs.Keys.{has_only}
use Rattle.data_read.specs.Values.{◌>>=◌, only_if, or_else}

-- a list of rows, and the list of parts
abbrev pub Entry : Type 0
Entry = Items × Items

-- a list alone is one of rows
abbrev pub only_rows : Items → Entry
only_rows rows = (rows, no_items)

-- the list that a value is, empty where there is no value
abbrev pub list_or_none : Option Data → Option Items
list_or_none None = Some no_items
list_or_none (Some value) = as_array value

-- only a sealed source has parts
abbrev pub parts_in : (is_sealed : Bool) → Data → Option Items
parts_in true value = list_or_none (get (codes "parts") value)
parts_in false value = Some no_items

-- the keys of an entry
abbrev pub entry_keys : (is_sealed : Bool) → List Name
entry_keys is_sealed = if is_sealed then codes "rows" ∷ codes "parts" ∷ [] else codes "rows" ∷ []

-- an object with both lists
abbrev pub object_in : (is_sealed : Bool) → Data → Option Entry
object_in is_sealed value = do
  object ← as_object value
  rows ← list_or_none (get (codes "rows") value)
  parts ← parts_in is_sealed value
  only_if (has_only (entry_keys is_sealed) object) (rows, parts)

-- a list of rows, or an object
abbrev pub entry_in : (is_sealed : Bool) → Data → Option Entry
entry_in is_sealed value = or_else (option_map only_rows (as_array value)) (object_in is_sealed value)
