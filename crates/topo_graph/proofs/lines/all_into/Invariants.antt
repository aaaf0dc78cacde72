use Rattle.std.proofs.Common.{◌≡◌, map}
use Rattle.std.specs.List.{range_with_len}
use Rattle.topo_graph.specs.Code.Lines.{into_set}
use Rattle.topo_forms.specs.Kept.{view_kept}
use Rattle.topo_graph.proofs.lines.all_into.Given as goal

abbrev pub invariant-loop-component : goal.invariant-loop-component
invariant-loop-component l = l.sets.items ≡ map (into_set (view_kept l.kept)) (range_with_len 0 l.component)
