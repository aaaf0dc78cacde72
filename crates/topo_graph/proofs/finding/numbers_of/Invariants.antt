use Rattle.std.proofs.Common.{◌≡◌, map}
use Rattle.std.specs.List.{range_with_len, position_or_len}
use Rattle.blz_value.specs.Graph.{is_in}
use Rattle.topo_graph.proofs.finding.numbers_of.Given as goal

abbrev pub invariant-loop-component : goal.invariant-loop-component
invariant-loop-component l = l.numbers.items ≡ map (λ c. position_or_len (is_in c) l.regions) (range_with_len 0 l.component)
