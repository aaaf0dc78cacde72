-- What the value of a key gives: None where it isn't of the form that is wanted.
use Rattle.std.specs.Prelude.{ℕ, ℤ, pos, negsuc, Bool, ◌==◌, ◌&&◌, nat_lt, nat_le, List, [], ◌∷◌, length, Option, Some, None, if◌then◌else◌, codes}
use Rattle.std.specs.List.{position_or_len, before_first, after_first}
use Rattle.std.specs.Str.{bytes_eq}
use Rattle.toml.specs.Data.{Data, Items, no_items, item, as_str, as_array, as_integer}
use Rattle.blz_value.specs.Name.{is_name}
use Rattle.topo_forms.specs.declared.topology.Spot.{Spot}
use Rattle.topo_forms.specs.declared.topology.ColumnType.{ColumnType}
use Rattle.topo_forms.specs.declared.topology.ColumnType.TheVariants as types
use Rattle.topo_forms.specs.declared.topology.NoteName.{NoteName}
use Rattle.topo_forms.specs.declared.topology.NoteName.TheVariants as notes
use Rattle.topo_forms.specs.declared.topology.ModeName.{ModeName}
use Rattle.topo_forms.specs.declared.topology.ModeName.TheVariants as modes
use Rattle.topo_read.specs.declared.values.Format.{Format}
use Rattle.topo_read.specs.declared.values.Format.TheVariants.{One, Two}
use Rattle.topo_read.specs.declared.values.FileName.{FileName}
use Rattle.topo_read.specs.declared.values.StockName.{StockName}
use Rattle.topo_read.specs.declared.values.StockName.TheVariants as stocks

-- goes on with what was given
infixl 10 ◌>>=◌
abbrev pub ◌>>=◌ : {A B : Type 0} → Option A → (A → Option B) → Option B
None >>= next = None
(Some x) >>= next = next x

-- x where the test holds
abbrev pub only_if : {X : Type 0} → Bool → X → Option X
only_if test x = if test then Some x else None

-- a text that is a name
abbrev pub name_of : List ℕ → Option (List ℕ)
name_of text = only_if (is_name text) text

-- the name that a value is
abbrev pub name_in : Data → Option (List ℕ)
name_in value = as_str value >>= name_of

-- what each item gives, in order, where each gives something
abbrev pub all_in : {X : Type 0} → (Data → Option X) → Items → Option (List X)
all_in read no_items = Some []
all_in read (item value rest) = do
  first ← read value
  others ← all_in read rest
  Some (first ∷ others)

-- a list, each item of it read so
abbrev pub list_in : {X : Type 0} → (Data → Option X) → Data → Option (List X)
list_in read value = as_array value >>= all_in read

-- a list of names
abbrev pub names_in : Data → Option (List (List ℕ))
names_in value = list_in name_in value

-- a list that has an item
abbrev pub one_or_more : {X : Type 0} → List X → Option (List X)
one_or_more [] = None
one_or_more (x ∷ xs) = Some (x ∷ xs)

-- a list of names, one or more
abbrev pub some_names_in : Data → Option (List (List ℕ))
some_names_in value = names_in value >>= one_or_more

-- `.`
abbrev pub is_dot : ℕ → Bool
is_dot byte = byte == 46

-- what stands before and after the first dot
abbrev pub parts_of : List ℕ → Option (List ℕ × List ℕ)
parts_of text = only_if (nat_lt (position_or_len is_dot text) (length text)) (before_first is_dot text, after_first is_dot text)

-- a component's name, a dot, and the name of its port or output
unfoldable pub spot_of : List ℕ → Option Spot
spot_of text = do
  parts ← parts_of text
  component ← name_of parts.0
  port ← name_of parts.1
  Some (record { component = component; port = port })

-- the port or output that a value names
abbrev pub spot_in : Data → Option Spot
spot_in value = as_str value >>= spot_of

-- 1 to 255 bytes
abbrev pub is_file_name : List ℕ → Bool
is_file_name text = nat_le 1 (length text) && nat_le (length text) 255

-- the name of a module's file
abbrev pub file_of : List ℕ → Option FileName
file_of text = only_if (is_file_name text) (record { name = text })

-- the file that a value names
abbrev pub file_in : Data → Option FileName
file_in value = as_str value >>= file_of

-- int, text or any
abbrev pub type_of : List ℕ → Option ColumnType
type_of text = if bytes_eq text (codes "int") then Some types.Int
    else (if bytes_eq text (codes "text") then Some types.Text
    else (if bytes_eq text (codes "any") then Some types.Any
    else None))

-- the type of a column that a value names
abbrev pub type_in : Data → Option ColumnType
type_in value = as_str value >>= type_of

-- a list with as many items
abbrev pub of_length : {X : Type 0} → ℕ → List X → Option (List X)
of_length count xs = only_if (length xs == count) xs

-- the types of as many columns
abbrev pub types_in : ℕ → Data → Option (List ColumnType)
types_in count value = list_in type_in value >>= of_length count

-- split, latest or number
abbrev pub stock_of : List ℕ → Option StockName
stock_of text = if bytes_eq text (codes "split") then Some stocks.Split
    else (if bytes_eq text (codes "latest") then Some stocks.Latest
    else (if bytes_eq text (codes "number") then Some stocks.Number
    else None))

-- the stock body that a value names
abbrev pub stock_in : Data → Option StockName
stock_in value = as_str value >>= stock_of

-- CR, CW, OR or OW
abbrev pub note_of : List ℕ → Option NoteName
note_of text = if bytes_eq text (codes "CR") then Some notes.CR
    else (if bytes_eq text (codes "CW") then Some notes.CW
    else (if bytes_eq text (codes "OR") then Some notes.OR
    else (if bytes_eq text (codes "OW") then Some notes.OW
    else None)))

-- the note that a value names
abbrev pub note_in : Data → Option NoteName
note_in value = as_str value >>= note_of

-- free, pass, seal or order
abbrev pub mode_of : List ℕ → Option ModeName
mode_of text = if bytes_eq text (codes "free") then Some modes.Free
    else (if bytes_eq text (codes "pass") then Some modes.Pass
    else (if bytes_eq text (codes "seal") then Some modes.Seal
    else (if bytes_eq text (codes "order") then Some modes.Order
    else None)))

-- the mode that a value names
abbrev pub mode_in : Data → Option ModeName
mode_in value = as_str value >>= mode_of

-- the format, 1 or 2
abbrev pub format_of : ℤ → Option Format
format_of (pos n) = if n == 1 then Some One else (if n == 2 then Some Two else None)
format_of (negsuc n) = None

-- the format that a value is
abbrev pub format_in : Data → Option Format
format_in value = as_integer value >>= format_of
