-- The output streams of a component with a mode that is tried, where what comes into it has these labels.
use Rattle.std.specs.Prelude.{ℕ, Bool, true, not, List, [], map, Option, None, Some}
use Rattle.std.specs.List.{flat_map, list_all}
use Rattle.bloom_forms.specs.declared.note.Note.{Note}
use Rattle.bloom_forms.specs.declared.mode.Mode.{Mode}
use Rattle.topo_forms.specs.Dependencies.{usable_fds}
use Rattle.topo_forms.specs.View.{View, End, is_replicated, note_at, origin_of, port_attrs, port_numbers, streams_from, streams_to}
use Rattle.label_rules.specs.declared.label.Label.{Label}
use Rattle.label_rules.specs.declared.label.PathLabel.{PathLabel}
use Rattle.label_rules.specs.PathTable.{pass_path}
use Rattle.label_rules.specs.Reconciliation.{reconcile}
use Rattle.label_walk.specs.Paths.{label_at}
use Rattle.coord_modes.specs.Plan.{is_bad}

-- the label of the path of a stream through a port with this note
abbrev pub path_with : View → List Label → (component port : ℕ) → Mode → Note → (stream : ℕ) → PathLabel
path_with v labels c p mode note s = pass_path (label_at labels s) note (port_attrs v c p) mode (usable_fds v c)

-- those of all streams into a port, where it has a note
abbrev pub port_paths_with : View → List Label → (component port : ℕ) → Mode → Option Note → List PathLabel
port_paths_with v labels c p mode None = []
port_paths_with v labels c p mode (Some note) = map (path_with v labels c p mode note) (streams_to v c p)

-- those towards an output: by port, then by stream
abbrev pub paths_with : View → List Label → (component output : ℕ) → Mode → List PathLabel
paths_with v labels c o mode = flat_map (λ p. port_paths_with v labels c p mode (note_at v c p o)) (port_numbers v c)

-- what Reconciliation gives the output
abbrev pub label_with : View → List Label → (component output : ℕ) → Mode → Label
label_with v labels c o mode = reconcile (paths_with v labels c o mode) mode (is_replicated v c) (usable_fds v c)

-- a stream from this output is Seal or Async
abbrev pub is_fine_with : View → List Label → Mode → Option End → Bool
is_fine_with v labels mode None = true
is_fine_with v labels mode (Some output) = not (is_bad (label_with v labels output.0 output.1 mode))

-- all output streams of the component are
abbrev pub is_good_with : View → List Label → (component : ℕ) → Mode → Bool
is_good_with v labels c mode = list_all (λ s. is_fine_with v labels mode (origin_of v s)) (streams_from v c)
