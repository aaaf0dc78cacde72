-- The rows and the parts of each source that a JSON value gives, or its first break: of the sources, as the file has them, and then of names that are none, by their bytes.
use Rattle.std.specs.Prelude.{ℕ, ◌+◌, List, [], ◌∷◌, map, Option, Some, None, Result, Ok, Err}
use Rattle.bloom_forms.specs.Query.{Name}
use Rattle.blz_value.specs.Record.{Row}
use Rattle.serde_json.specs.Data.{Data as Json, Items, no_items, item}
use Rattle.serde_json.specs.Events.{items_len}
use Rattle.serde_json.specs.Find.{get, as_object}
use Rattle.topo_forms.specs.Data.{SourceData, no_data}
use Rattle.topo_forms.specs.declared.topology.ColumnType.{ColumnType}
use Rattle.data_read.specs.declared.shape.Shape.{Shape}
use Rattle.data_read.specs.declared.fault.DataFault.{DataFault}
use Rattle.data_read.specs.declared.fault.DataFault.TheVariants.{DataForm}
use Rattle.data_read.specs.Entry.{entry_in}
use Rattle.data_read.specs.Keys.{unknown_key}
use Rattle.data_read.specs.Steps.{◌>>=◌}
use Rattle.data_read.specs.Values.{record_in}

-- what was given, or a break at this row
abbrev pub or_break : {X : Type 0} → Name → (row : ℕ) → Option X → Result X DataFault
or_break name row (Some x) = Ok x
or_break name row None = Err (DataForm name row)

-- the records of a list, whose rows are numbered from `row` on
abbrev pub records_in : List ColumnType → Name → (row : ℕ) → Items → Result (List Row) DataFault
records_in types name row no_items = Ok []
records_in types name row (item value rest) = do
  first ← or_break name row (record_in types value)
  others ← records_in types name (row + 1) rest
  Ok (first ∷ others)

-- a source's rows and parts; the rows of the parts are numbered after those of its records
unfoldable pub lists_in : Shape → Json → Result SourceData DataFault
lists_in shape value = do
  entry ← or_break shape.name 0 (entry_in shape.is_sealed value)
  rows ← records_in shape.types shape.name 1 entry.0
  parts ← records_in shape.key shape.name (1 + items_len entry.0) entry.1
  Ok (record { rows = rows; parts = parts })

-- a source without an entry holds nothing
abbrev pub source_in : Shape → Option Json → Result SourceData DataFault
source_in shape None = Ok no_data
source_in shape (Some value) = lists_in shape value

-- the sources in file order
abbrev pub sources_in : List Shape → Json → Result (List SourceData) DataFault
sources_in [] top = Ok []
sources_in (shape ∷ shapes) top = do
  first ← source_in shape (get shape.name top)
  others ← sources_in shapes top
  Ok (first ∷ others)

-- the name of the first source
abbrev pub first_name : List Shape → Name
first_name [] = []
first_name (shape ∷ shapes) = shape.name

-- a break at the entry of this name, where there is one
abbrev pub no_entry : Option Name → Result (Unit {0}) DataFault
no_entry None = Ok tt
no_entry (Some name) = Err (DataForm name 0)

abbrev pub names_of : List Shape → List Name
names_of shapes = map (λ shape. shape.name) shapes

-- what each source holds; each name is that of a source
unfoldable pub form_of : List Shape → Json → Result (List SourceData) DataFault
form_of shapes top = do
  object ← or_break (first_name shapes) 0 (as_object top)
  sources ← sources_in shapes top
  only ← no_entry (unknown_key (names_of shapes) object)
  Ok sources
