-- The lines of uses as the code asks for them.
use Rattle.std.specs.Prelude.{ℕ, [], if◌then◌else◌}
use Rattle.std.specs.List.{flat_map}
use Rattle.topo_forms.specs.View.{End, is_order, streams_to}
use Rattle.report_lines.specs.Reports.{view_in, labels_in}
use Rattle.report_lines.specs.DeriveText as spec
use Rattle.report_lines.specs.Words.{Text}
use Rattle.report_lines.specs.declared.report.Report.{Report}
use Rattle.report_lines.specs.declared.uses.Reading.{Reading}

-- a use of a stream at a port, read so
abbrev pub use_line : Report → Reading → (input : ℕ × End) → Text
use_line report reading input =
    spec.use_line (view_in report) (labels_in report) reading.note reading.columns reading.mode reading.fds.now input.0 input.1

-- the uses of streams at a port, read so
abbrev pub port_uses : Report → Reading → (component port : ℕ) → Text
port_uses report reading c p = flat_map (λ s. use_line report reading (s, (c, p))) (streams_to (view_in report) c p)

-- the uses of an output outside cycles; those of an Order component aren't told
abbrev pub uses_unless_ordered : Report → (component output : ℕ) → Text
uses_unless_ordered report c o = if is_order (view_in report) c then [] else spec.output_uses (view_in report) (labels_in report) c o
