use Rattle.std.proofs.Common.{◌≡◌, ◌++◌, map, filter, drop}
use Rattle.std.specs.List.{enumerate_from}
use Rattle.topo_graph.specs.Code.Chosen.{with_members}
use Rattle.blz_value.specs.Graph.{is_in}
use Rattle.topo_graph.proofs.modes.names_with.Given as goal

abbrev pub invariant-loop-number : goal.invariant-loop-number
invariant-loop-number l = l.some.items ++ map (λ place. place.1) (filter (λ place. is_in place.0 l.set) (enumerate_from l.number (drop l.number l.names))) ≡ with_members l.set l.names
