-- Which dependencies streams uphold, and which are usable at a component.
use Rattle.std.specs.Prelude.{ℕ, Bool, false, is_none, ◌&&◌, ◌||◌, not, Option, None, Some, List, filter, bit_or}
use Rattle.std.specs.List.{list_all}
use Rattle.blz_value.specs.declared.attrs.Fd.{Fd}
use Rattle.blz_value.specs.Bits.{bit_of, meets}
use Rattle.blz_value.specs.Closure.{within}
use Rattle.topo_forms.specs.Data.{has_both}
use Rattle.topo_forms.specs.Regions.{is_in_cycle}
use Rattle.blz_value.specs.NumberSets.{set_of_numbers, spread}
use Rattle.topo_forms.specs.View.{View, End, origin_of, is_order, has_body, output_at, own_attrs, stream_attrs, stream_numbers, streams_into}

-- a stream lacks a column of the dependency
abbrev pub lacks : View → Fd → (stream : ℕ) → Bool
lacks v fd s = not (has_both fd (stream_attrs v s).bits)

-- a stream that lacks a column of the dependency upholds it, and so does a source
abbrev pub upholds_alone : View → Fd → (stream : ℕ) → Bool
upholds_alone v fd s = lacks v fd s || is_none (origin_of v s)

-- an output may hand it on: each column of the dependency is its own root, and the component has a body, another mode than order, and stands on no cycle
abbrev pub hands_on : View → Fd → Option End → Bool
hands_on v fd None = false
hands_on v fd (Some output) =
    has_body v output.0 && (not (is_order v output.0) && (not (is_in_cycle v output.0)
    && within (bit_or fd.from.bits fd.to.bits) (own_attrs (output_at v output.0 output.1))))

-- the streams into the component from which a stream comes
abbrev pub streams_before : View → Option End → ℕ
streams_before v None = 0
streams_before v (Some output) = set_of_numbers (streams_into v output.0)

-- the streams that uphold a dependency: those that do alone, and those of outputs that hand it on where every stream into their component upholds it
unfoldable pub upholders : View → Fd → ℕ
upholders v fd = spread (upholds_alone v fd) (λ s. hands_on v fd (origin_of v s)) (λ s. streams_before v (origin_of v s)) (stream_numbers v)

abbrev pub upholds : View → Fd → (stream : ℕ) → Bool
upholds v fd s = meets (bit_of s) (upholders v fd)

-- a stream has all columns of `from` only together with all columns of `to`
abbrev pub has_to_with_from : View → Fd → (stream : ℕ) → Bool
has_to_with_from v fd s = not (within fd.from.bits (stream_attrs v s).bits) || within fd.to.bits (stream_attrs v s).bits

-- a dependency is usable at a component where every stream into it upholds it and has all of `from` only with all of `to`
abbrev pub is_usable : View → (component : ℕ) → Fd → Bool
is_usable v c fd = list_all (λ s. upholds v fd s && has_to_with_from v fd s) (streams_into v c)

-- the dependencies that are usable at a component
unfoldable pub usable_fds : View → (component : ℕ) → List Fd
usable_fds v c = filter (is_usable v c) v.fds
