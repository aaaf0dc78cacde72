-- Attributes of records: which some columns have, and the value of a record in one.
use Rattle.std.specs.Prelude.{ℕ, Bool, Some, List, [], slice_index_or}
use Rattle.std.specs.List.{list_any}
use Rattle.blz_value.specs.declared.value.Value.{Value}
use Rattle.blz_value.specs.Record.{Row}
use Rattle.blz_value.specs.Test.{cell}
use Rattle.bloom_forms.specs.Columns.{column_number}
use Rattle.bloom_forms.specs.Query.{Name}
use Rattle.bloom_forms.specs.HeadRoots.{attribute_roots}
use Rattle.bloom_forms.specs.Roots.{are_same}

-- some columns have an attribute
abbrev pub has_attribute : (names columns : List Name) → (attribute : ℕ) → Bool
has_attribute names columns attribute = list_any (are_same (Some attribute)) (attribute_roots names columns)

-- the value that a record with these columns has in an attribute: that of the column of its name
abbrev pub value_in : (names columns : List Name) → Row → (attribute : ℕ) → Value
value_in names columns row attribute = cell row (column_number columns (slice_index_or names attribute []))
