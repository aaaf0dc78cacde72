use Rattle.std.proofs.Common.{◌≡◌, map}
use Rattle.std.specs.List.{range_with_len}
use Rattle.topo_graph.specs.Code.Feeders.{feeders_at}
use Rattle.topo_forms.specs.Kept.{view_kept}
use Rattle.topo_graph.proofs.feeders.all_feeders.Given as goal

abbrev pub invariant-loop-component : goal.invariant-loop-component
invariant-loop-component l = l.sets.items ≡ map (feeders_at (view_kept l.kept) l.into) (range_with_len 0 l.component)
