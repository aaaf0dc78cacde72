-- The lines of components as the code asks for them.
use Rattle.std.specs.Prelude.{ℕ, Bool, List, map}
use Rattle.std.specs.List.{flat_map}
use Rattle.topo_forms.specs.Dependencies.{usable_fds}
use Rattle.topo_forms.specs.View.{component_at, mode_of, note_at, output_numbers, stream_of}
use Rattle.label_rules.specs.Reconciliation.{is_protected}
use Rattle.label_walk.specs.Paths.{output_paths}
use Rattle.report_lines.specs.Reports.{view_in, labels_in}
use Rattle.report_lines.specs.DeriveText as spec
use Rattle.report_lines.specs.Words.{Text}
use Rattle.report_lines.specs.declared.report.Report.{Report}

-- the line of a path
abbrev pub path_line : Report → (component port output : ℕ) → Text
path_line report c p o = spec.path_line (view_in report) c p o (note_at (view_in report) c p o)

-- the lines of the paths from a port
abbrev pub port_lines : Report → (component port : ℕ) → Text
port_lines report c p = flat_map (path_line report c p) (output_numbers (view_in report) c)

-- an output is protected
abbrev pub is_protected_output : Report → (component output : ℕ) → Bool
is_protected_output report c o = is_protected (output_paths (view_in report) (labels_in report) c o) (mode_of (view_in report) c) (usable_fds (view_in report) c)

-- the lines of an output in a cycle, and of all
abbrev pub inside_output : Report → (component output : ℕ) → Text
inside_output report c o = spec.inside_lines (view_in report) (labels_in report) c o (stream_of (view_in report) c o)

abbrev pub inside_outputs : Report → (component : ℕ) → Text
inside_outputs report c = flat_map (inside_output report c) (output_numbers (view_in report) c)

-- the lines of an output outside cycles, and of all
abbrev pub outside_output : Report → (component output : ℕ) → Text
outside_output report c o = spec.outside_lines (view_in report) (labels_in report) c o (stream_of (view_in report) c o)

abbrev pub outside_outputs : Report → (component : ℕ) → Text
outside_outputs report c = flat_map (outside_output report c) (output_numbers (view_in report) c)

-- the names of some components
abbrev pub component_names : Report → List ℕ → List Text
component_names report components = map (λ c. (component_at (view_in report) c).name) components
