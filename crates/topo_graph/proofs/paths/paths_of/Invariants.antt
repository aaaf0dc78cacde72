use Rattle.std.proofs.Common.{◌≡◌, map}
use Rattle.std.specs.List.{range_with_len}
use Rattle.topo_graph.specs.Code.Paths.{path_by}
use Rattle.topo_forms.specs.Kept.{view_kept}
use Rattle.topo_graph.proofs.paths.paths_of.Given as goal

abbrev pub invariant-loop-stream : goal.invariant-loop-stream
invariant-loop-stream l = l.paths.items ≡ map (path_by (view_kept l.kept) l.rows l.usable) (range_with_len 0 l.stream)
