-- The text of `derive`.
use Rattle.std.specs.Prelude.{ℕ, List, [], ◌∷◌, ◌++◌, map, Bool, if◌then◌else◌, Option, None, Some, codes}
use Rattle.std.specs.Fmt.{decimal}
use Rattle.std.specs.List.{flat_map}
use Rattle.blz_value.specs.declared.attrs.Attrs.{Attrs}
use Rattle.blz_value.specs.declared.attrs.Fd.{Fd}
use Rattle.blz_value.specs.Bits.{members}
use Rattle.bloom_forms.specs.declared.note.Note.{Note}
use Rattle.bloom_forms.specs.declared.note.Note.TheVariants.{CR, CW, OR, OW}
use Rattle.bloom_forms.specs.declared.mode.Mode.{Mode}
use Rattle.bloom_forms.specs.declared.mode.Mode.TheVariants as mode
use Rattle.topo_forms.specs.Dependencies.{usable_fds}
use Rattle.topo_forms.specs.Regions.{region_set, is_in_cycle}
use Rattle.blz_value.specs.NumberSets.{below}
use Rattle.topo_forms.specs.View.{View, End, component_at, stream_at, port_at, output_at, is_order, mode_of, note_at, port_attrs, port_numbers, output_numbers, component_numbers, stream_of, streams_to, source_count}
use Rattle.label_rules.specs.declared.label.Label.{Label}
use Rattle.label_rules.specs.declared.label.Label.TheVariants.{Seal, Async, Run, Inst}
use Rattle.label_rules.specs.declared.label.PathLabel.{PathLabel}
use Rattle.label_rules.specs.declared.label.PathLabel.TheVariants as path
use Rattle.label_rules.specs.PathTable.{label_read, gate_read, pass_path}
use Rattle.label_rules.specs.Reconciliation.{is_protected}
use Rattle.label_walk.specs.Paths.{label_at, output_paths, region_note, region_inputs}
use Rattle.report_lines.specs.Words.{Text, label_word, note_word, mode_word, line, inner_line}

-- ---- uses

-- the rule by which a label that is read becomes that of a path
abbrev pub rule_word : Label → PathLabel → Text
rule_word (Seal key) path.Taint = codes "rule 4"
rule_word (Seal key) (path.NdRead gate base) = codes "rule 5"
rule_word Async (path.NdRead gate base) = codes "rule 1"
rule_word Async path.Taint = codes "rule 2"
rule_word Run (path.NdRead gate base) = codes "rule 1"
rule_word Run path.Taint = codes "rule 2"
rule_word Inst path.Taint = codes "rule 3"
rule_word label given = codes "kept"

-- a note with its gate as it is read
abbrev pub note_read : Mode → Attrs → Note → Note
note_read mode columns CR = CR
note_read mode columns CW = CW
note_read mode columns (OR gate) = OR (gate_read mode columns gate)
note_read mode columns (OW gate) = OW (gate_read mode columns gate)

-- a use of a stream at a port of a component: the note that is applied, with the columns and the mode by which it is read, and the dependencies
abbrev pub use_line : View → List Label → Note → Attrs → Mode → List Fd → (stream : ℕ) → (end : End) → Text
use_line v labels note columns mode fds s end = inner_line (
    codes "use"
    ∷ (stream_at v s).name
    ∷ label_word v.attributes (label_at labels s)
    ∷ (port_at v end.0 end.1).name
    ∷ note_word v.attributes (note_read mode columns note)
    ∷ rule_word (label_read mode (label_at labels s)) (pass_path (label_at labels s) note columns mode fds)
    ∷ [])

-- the uses of a port, where it has a note
abbrev pub port_uses : View → List Label → (component port : ℕ) → Option Note → Text
port_uses v labels c p None = []
port_uses v labels c p (Some note) = flat_map (λ s. use_line v labels note (port_attrs v c p) (mode_of v c) (usable_fds v c) s (c, p)) (streams_to v c p)

-- the uses of an output: port by port, where there is a note from the port to the output, its streams
abbrev pub output_uses : View → List Label → (component output : ℕ) → Text
output_uses v labels c o = flat_map (λ p. port_uses v labels c p (note_at v c p o)) (port_numbers v c)

-- the uses of a cyclic region: streams in order, and their ports in the order of `to`
unfoldable pub region_uses : View → List Label → (set : ℕ) → Text
region_uses v labels set = flat_map (λ input. use_line v labels (region_note v set) (record { bits = 0 }) mode.Free [] input.0 input.1) (region_inputs v set)

-- ---- components

abbrev pub path_line : View → (component port output : ℕ) → Option Note → Text
path_line v c p o None = []
path_line v c p o (Some note) = inner_line (codes "path" ∷ (port_at v c p).name ∷ (output_at v c o).name ∷ note_word v.attributes note ∷ [])

-- each path with a note: ports in order, and of each the outputs in order
abbrev pub path_lines : View → (component : ℕ) → Text
path_lines v c = flat_map (λ p. flat_map (λ o. path_line v c p o (note_at v c p o)) (output_numbers v c)) (port_numbers v c)

-- the members of a cyclic region
unfoldable pub cycle_line : View → (set : ℕ) → Text
cycle_line v set = inner_line (codes "cycle" ∷ map (λ c. (component_at v c).name) (members set))

abbrev pub word_if : Bool → Text → List Text
word_if here word = if here then word ∷ [] else []

-- an output with its stream; in a cyclic region the mode is read as Free, and nothing is protected
abbrev pub out_line : View → List Label → (component output stream : ℕ) → Text
out_line v labels c o s = inner_line (
    codes "out"
    ∷ (stream_at v s).name
    ∷ label_word v.attributes (label_at labels s)
    ∷ (word_if (is_protected (output_paths v labels c o) (mode_of v c) (usable_fds v c)) (codes "protected")
    ++ word_if (is_order v c) (codes "ordered")))

-- an output outside cycles, behind its uses; one of an Order component has none
abbrev pub outside_lines : View → List Label → (component output : ℕ) → Option ℕ → Text
outside_lines v labels c o None = []
outside_lines v labels c o (Some s) = (if is_order v c then [] else output_uses v labels c o) ++ out_line v labels c o s

-- an output in a cycle
abbrev pub inside_lines : View → List Label → (component output : ℕ) → Option ℕ → Text
inside_lines v labels c o None = []
inside_lines v labels c o (Some s) = out_line v labels c o s

abbrev pub cycle_lines : View → List Label → (component set : ℕ) → Text
cycle_lines v labels c set = cycle_line v set ++ region_uses v labels set ++ flat_map (λ o. inside_lines v labels c o (stream_of v c o)) (output_numbers v c)

-- the lines of a component after its paths
abbrev pub end_lines : View → List Label → (component : ℕ) → Text
end_lines v labels c = if is_in_cycle v c then cycle_lines v labels c (region_set v c) else flat_map (λ o. outside_lines v labels c o (stream_of v c o)) (output_numbers v c)

abbrev pub component_lines : View → List Label → (component : ℕ) → Text
component_lines v labels c =
    line (codes "component" ∷ (component_at v c).name ∷ mode_word v.attributes (mode_of v c) ∷ decimal (component_at v c).replicas ∷ [])
    ++ path_lines v c
    ++ end_lines v labels c

-- ---- the whole

abbrev pub source_line : View → List Label → (stream : ℕ) → Text
source_line v labels s = line (codes "source" ∷ (stream_at v s).name ∷ label_word v.attributes (label_at labels s) ∷ [])

-- each source in order, then each component in file order
abbrev pub derive_text : View → List Label → Text
derive_text v labels = flat_map (source_line v labels) (below (source_count v)) ++ flat_map (component_lines v labels) (component_numbers v)
