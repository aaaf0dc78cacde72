-- What the code gives as data are data of the topology, and hold its dependencies.
use Rattle.std.proofs.Common.{◌≡◌, ◌<◌, ◌≤◌, ◌-◌, ◌^◌, ℕ, List, map, length, Option, Some, None, Result, Ok, Err, IfOk, Vec, Global, ap, arith}
use Rattle.std.proofs.lemmas.List.{length-map}
use Rattle.serde_json.specs.Data.{Data as Json}
use Rattle.serde_json.specs.View.{view}
use Rattle.serde_json.specs.declared.value.Value.{Value}
use Rattle.topo_forms.specs.Data.{Data, SourceData, IsData, Holds}
use Rattle.topo_forms.specs.Valid.{Validated}
use Rattle.topo_forms.specs.View.{View}
use Rattle.data_read.specs.declared.fault.DataFault.{DataFault}
use Rattle.data_read.specs.Code.Weight.{weight}
use Rattle.data_read.specs.Form.{form_of}
use Rattle.data_read.specs.Gives.{Gives}
use Rattle.data_read.specs.Making.{distinct_lists, data_from}
use Rattle.data_read.specs.Reading.{or_not_json, value_of}
use Rattle.data_read.specs.Shape.{shapes_of}
use Rattle.data_read.proofs.FormLemmas.{form_fits, fitting, same_ok}
use Rattle.data_read.proofs.HoldingLemmas.{made}
use Rattle.topo_forms.proofs.KeyOfSource.{source_stream}
use Rattle.data_read.proofs.TextWeight.{text_weighs}

-- there are no more lists than streams
pub few_lists : (v : View) (lists : Data) → IsData v lists → length lists ≤ length v.streams
few_lists v lists is = omega (arith, is.each, source_stream v)

pub few_distinct : (v : View) (lists distinct : Data) → distinct ≡ map distinct_lists lists → IsData v lists → length distinct ≤ length v.streams
few_distinct v lists distinct same is = omega (arith, ap length same, length-map lists distinct_lists, few_lists v lists is)

pub are_data : (v : View) (lists : Data) (r : Result Data DataFault) → IsData v lists → Gives (λ d. d) r (data_from v lists) → IfOk r (IsData v)
are_data v lists (Ok d) is e = (made v lists d is e).0
are_data v lists (Err f) is e = tt

pub are_held : (v : View) (lists : Data) (r : Result Data DataFault) → IsData v lists → Gives (λ d. d) r (data_from v lists) → IfOk r (Holds v)
are_held v lists (Ok d) is e = (made v lists d is e).1
are_held v lists (Err f) is e = tt

-- what is read of a form
pub forms_fit : (t : Validated) (top : Json) (r : Result (Vec SourceData Global) DataFault) → Gives (λ s. s.items) r (form_of (shapes_of t) top) → IfOk r (λ s. IsData t.view s.items)
forms_fit t top (Ok s) e = fitting t s.items (form_fits (shapes_of t) top s.items e)
forms_fit t top (Err f) e = tt

some_value : (o : Option Json) (d : Json) → or_not_json o ≡ Ok d → o ≡ Some d
some_value (Some x) d e = ap Some (same_ok x d e)
some_value None d e = cc

-- the value of a text that isn't too long
pub small_value : (bytes : List ℕ) (r : Result Value DataFault) → length bytes < 2 ^ 32 - 1 → Gives view r (or_not_json (value_of bytes)) → IfOk r (λ v. weight (view v) ≤ 2 ^ 32)
small_value bytes (Ok v) lt e = omega (arith, text_weighs bytes (view v) (some_value (value_of bytes) (view v) e))
small_value bytes (Err f) lt e = tt
