use Rattle.std.proofs.Common.{◌≡◌, ◌≤◌, length, drop}
use Rattle.topo_forms.specs.Attributes.{with_columns, side_columns}
use Rattle.topo_types.proofs.validity.too_many.add_ports.Given as goal

abbrev pub invariant-loop-port : goal.invariant-loop-port
invariant-loop-port l = (with_columns l.names (side_columns (drop l.port-index l.ports)) ≡ with_columns l.fn.names (side_columns l.ports)) × (length l.names ≤ 64)
