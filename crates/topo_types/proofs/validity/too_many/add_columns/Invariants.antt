use Rattle.std.proofs.Common.{◌≡◌, ◌≤◌, length, drop}
use Rattle.topo_forms.specs.Attributes.{with_columns}
use Rattle.topo_types.proofs.validity.too_many.add_columns.Given as goal

abbrev pub invariant-loop-column : goal.invariant-loop-column
invariant-loop-column l = (with_columns l.names (drop l.column-index l.columns) ≡ with_columns l.fn.names l.columns) × (length l.names ≤ 64)
