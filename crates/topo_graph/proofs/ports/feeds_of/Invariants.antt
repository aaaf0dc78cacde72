use Rattle.std.proofs.Common.{◌≡◌}
use Rattle.std.specs.List.{flat_map, range_with_len}
use Rattle.topo_graph.specs.Code.Ports.{feeds_at}
use Rattle.topo_forms.specs.Kept.{view_kept}
use Rattle.topo_graph.proofs.ports.feeds_of.Given as goal

abbrev pub invariant-loop-stream : goal.invariant-loop-stream
invariant-loop-stream l = l.feeds.items ≡ flat_map (feeds_at (view_kept l.kept) l.component) (range_with_len 0 l.stream)
