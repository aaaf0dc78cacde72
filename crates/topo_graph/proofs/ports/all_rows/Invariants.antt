use Rattle.std.proofs.Common.{◌≡◌, map}
use Rattle.std.specs.List.{range_with_len}
use Rattle.topo_graph.specs.Code.Ports.{row_of}
use Rattle.topo_forms.specs.Kept.{view_kept}
use Rattle.topo_graph.proofs.ports.all_rows.Given as goal

abbrev pub invariant-loop-component : goal.invariant-loop-component
invariant-loop-component l = l.rows.items ≡ map (row_of (view_kept l.kept)) (range_with_len 0 l.component)
