-- Tables by their fields, and how lists, names and texts stand in them.
use Rattle.std.specs.Prelude.{ℕ, List, [], ◌∷◌, map, fold, Option, None, Some}
use Rattle.std.specs.Cmp.Lexicographic.{slice_cmp}
use Rattle.std.specs.Ordering.{nat_cmp, match_ordering}
use Rattle.toml.specs.Data.{Data, array, table, Members, no_members, member}
use Rattle.toml.specs.View.{items_of}

-- the members with this value at a key; they stand in the byte order of their keys
abbrev pub with_member : List ℕ → Data → Members → Members
with_member key value no_members = member key value no_members
with_member key value (member other own rest) = match_ordering (slice_cmp nat_cmp key other)
    (member key value (member other own rest))
    (member other value rest)
    (member other own (with_member key value rest))

-- a key with its value, and with none where the key isn't written
abbrev pub Field : Type 0
Field = List ℕ × Option Data

abbrev pub with_value : Members → List ℕ → Option Data → Members
with_value members key None = members
with_value members key (Some value) = with_member key value members

abbrev pub with_field : Members → Field → Members
with_field members field = with_value members field.0 field.1

-- the table of these fields
abbrev pub table_with : List Field → Members
table_with fields = fold with_field no_members fields

-- a table as a value
abbrev pub table_data : List Field → Data
table_data fields = table (table_with fields)

-- a list, each item of it written so
abbrev pub list_data : {X : Type 0} → (X → Data) → List X → Data
list_data write xs = array (items_of (map write xs))

-- a list whose key isn't written where it is empty
abbrev pub unless_empty : {X : Type 0} → (X → Data) → List X → Option Data
unless_empty write [] = None
unless_empty write (x ∷ xs) = Some (list_data write (x ∷ xs))
