-- Streams as carried seals look at them, and the key that each carries.
use Rattle.std.specs.Prelude.{ℕ, ◌&&◌, Bool, if◌then◌else◌, Option, None, Some, List, map}
use Rattle.std.specs.List.{enumerate_from}
use Rattle.std.specs.Option.{option_and_then}
use Rattle.blz_value.specs.declared.attrs.Attrs.{Attrs}
use Rattle.blz_value.specs.declared.attrs.Fd.{Fd}
use Rattle.blz_value.specs.Closure.{within, closure}
use Rattle.blz_value.specs.Arrows.{arrow_from, with_all, bit_if}
use Rattle.blz_value.specs.declared.carried.Path.{Path}
use Rattle.blz_value.specs.Arrows.{is_key}
use Rattle.blz_value.specs.Graph.{is_in}

-- its output may carry the key
abbrev pub passes_by : (key : ℕ) → Path → Bool
passes_by key path = path.body && (is_key key path.key && (path.some && (path.fed && (within key path.reach && (within key path.own && path.notes)))))

abbrev pub start_by : (key : ℕ) → ℕ × Path → ℕ
start_by key place = bit_if (is_key key place.1.declared) place.0

abbrev pub arrow_by : (key : ℕ) → ℕ × Path → Fd
arrow_by key place = arrow_from place.1.behind (bit_if (passes_by key place.1) place.0)

-- the streams that carry a key
abbrev pub carriers_by : List Path → (key : ℕ) → ℕ
carriers_by paths key = closure (with_all 0 (map (start_by key) (enumerate_from 0 paths))) (map (arrow_by key) (enumerate_from 0 paths))

-- the key, where the stream carries it
abbrev pub carried_if : List Path → (stream : ℕ) → Attrs → Option Attrs
carried_if paths s key = if is_in s (carriers_by paths key.bits) then Some key else None

-- the key that a stream carries
abbrev pub carried_by : List Path → ℕ × Path → Option Attrs
carried_by paths place = option_and_then (carried_if paths place.0) place.1.key
