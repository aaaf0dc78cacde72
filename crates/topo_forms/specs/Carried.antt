-- Which streams and ports carry seals, and of which key.
use Rattle.std.specs.Prelude.{ℕ, Bool, true, false, ◌&&◌, if◌then◌else◌, nat_lt, length, Option, None, Some, List, [], ◌∷◌}
use Rattle.std.specs.List.{flat_map, list_all}
use Rattle.std.specs.Option.{option_and_then, option_map_or}
use Rattle.blz_value.specs.declared.attrs.Attrs.{Attrs}
use Rattle.blz_value.specs.Bits.{bit_of, meets}
use Rattle.blz_value.specs.Closure.{within, closure}
use Rattle.bloom_forms.specs.declared.note.Note.{Note}
use Rattle.bloom_forms.specs.Note.{own_gate}
use Rattle.bloom_forms.specs.declared.mode.Mode.{Mode}
use Rattle.bloom_forms.specs.declared.mode.Mode.TheVariants.{Free, Pass, Seal, Order}
use Rattle.topo_forms.specs.Dependencies.{usable_fds}
use Rattle.blz_value.specs.NumberSets.{set_of_numbers, spread}
use Rattle.topo_forms.specs.View.{View, End, stream_at, origin_of, mode_of, mode_key, has_body, output_at, own_attrs, note_at, ports_towards, streams_to, has_stream, stream_numbers}
use Rattle.blz_value.specs.Arrows.{is_key}

-- a note is CR or CW
abbrev pub is_confluent : Note → Bool
is_confluent note = option_map_or (λ gate. false) (own_gate note) true

-- no path to an output has an O note
abbrev pub is_confluent_output : View → (component output : ℕ) → Bool
is_confluent_output v c o = list_all (λ p. option_map_or is_confluent (note_at v c p o) true) (ports_towards v c o)

-- in mode Pass all notes towards a carrying output must be CR or CW
abbrev pub allows_notes : View → Mode → (component output : ℕ) → Bool
allows_notes v Free c o = true
allows_notes v (Pass key) c o = is_confluent_output v c o
allows_notes v (Seal key) c o = true
allows_notes v Order c o = true

-- an output may carry the key: its component has a body and the mode Pass or Seal with it; a port has a note towards it, and each such port has a stream; the key lies in the closure of its gate, and the output has its columns with themselves as their roots; in mode Pass all notes are CR or CW
abbrev pub may_carry : View → (key : ℕ) → Option End → Bool
may_carry v key None = false
may_carry v key (Some output) =
    has_body v output.0 && (is_key key (mode_key (mode_of v output.0))
    && (nat_lt 0 (length (ports_towards v output.0 output.1)) && (list_all (has_stream v output.0) (ports_towards v output.0 output.1)
    && (within key (closure (output_at v output.0 output.1).gate.bits (usable_fds v output.0))
    && (within key (own_attrs (output_at v output.0 output.1))
    && allows_notes v (mode_of v output.0) output.0 output.1)))))

-- the streams into the ports with a note towards an output
abbrev pub streams_towards : View → (component output : ℕ) → List ℕ
streams_towards v c o = flat_map (streams_to v c) (ports_towards v c o)

abbrev pub streams_behind : View → Option End → ℕ
streams_behind v None = 0
streams_behind v (Some output) = set_of_numbers (streams_towards v output.0 output.1)

-- the streams that carry a key: the sources that declare it, and the streams of outputs that may carry it where all streams into the ports with a note towards them do
unfoldable pub carriers : View → (key : ℕ) → ℕ
carriers v key = spread (λ s. is_key key (stream_at v s).key) (λ s. may_carry v key (origin_of v s)) (λ s. streams_behind v (origin_of v s)) (stream_numbers v)

-- a stream carries this key
abbrev pub carries_key : View → (key stream : ℕ) → Bool
carries_key v key s = meets (bit_of s) (carriers v key)

-- the key that a stream can carry at all: the one that a source declares, and that of its component's mode
abbrev pub key_before : View → (stream : ℕ) → Option End → Option Attrs
key_before v s None = (stream_at v s).key
key_before v s (Some output) = mode_key (mode_of v output.0)

-- the key that a stream carries
unfoldable pub carries : View → (stream : ℕ) → Option Attrs
carries v s = option_and_then (λ key. if carries_key v key.bits s then Some key else None) (key_before v s (origin_of v s))

-- a port carries a key where it has a stream and all its streams carry it
abbrev pub port_carries : View → (key component port : ℕ) → Bool
port_carries v key c p = has_stream v c p && list_all (carries_key v key) (streams_to v c p)

-- the key that some streams carry, all of them
abbrev pub common_key : View → List ℕ → Option Attrs
common_key v [] = None
common_key v (s ∷ streams) = option_and_then (λ key. if list_all (carries_key v key.bits) streams then Some key else None) (carries v s)

-- the key that a port carries
abbrev pub port_key : View → (component port : ℕ) → Option Attrs
port_key v c p = common_key v (streams_to v c p)
