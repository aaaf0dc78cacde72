-- The data that the bytes of a file give, or their first fault.
use Rattle.std.specs.Prelude.{ℕ, List, Option, Some, None, option_and_then, Result, Ok, Err, if◌then◌else◌}
use Rattle.std.specs.Str.{is_utf8}
use Rattle.serde_json.specs.Data as json
use Rattle.serde_json.specs.Read as json_text
use Rattle.topo_forms.specs.Data.{Data}
use Rattle.topo_forms.specs.Valid.{Validated}
use Rattle.data_read.specs.declared.fault.DataFault.{DataFault}
use Rattle.data_read.specs.declared.fault.DataFault.TheVariants.{NotJson}
use Rattle.data_read.specs.Form.{form_of}
use Rattle.data_read.specs.Making.{data_from}
use Rattle.data_read.specs.Shape.{shapes_of}
use Rattle.data_read.specs.Steps.{◌>>=◌}

-- the text of bytes that are UTF-8
unfoldable pub text_of : List ℕ → Option (List ℕ)
text_of bytes = if is_utf8 bytes then Some bytes else None

-- the JSON value that bytes are
abbrev pub value_of : List ℕ → Option json.Data
value_of bytes = option_and_then json_text.read (text_of bytes)

abbrev pub or_not_json : Option json.Data → Result json.Data DataFault
or_not_json None = Err NotJson
or_not_json (Some value) = Ok value

-- the value that the bytes are, then its form, then the count, then the dependencies
unfoldable pub data_of : Validated → List ℕ → Result Data DataFault
data_of t bytes = do
  top ← or_not_json (value_of bytes)
  lists ← form_of (shapes_of t) top
  data_from t.view lists
