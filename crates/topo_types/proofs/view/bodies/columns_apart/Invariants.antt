use Rattle.std.proofs.Common.{◌≡◌, ◌++◌, map, filter, drop, not}
use Rattle.std.specs.Prelude.{◌==◌}
use Rattle.std.specs.List.{enumerate_from}
use Rattle.topo_types.specs.Code.Chosen.{without_number}
use Rattle.topo_types.proofs.view.bodies.columns_apart.Given as goal

abbrev pub invariant-loop-i : goal.invariant-loop-i
invariant-loop-i l = l.copies.items ++ map (λ place. place.1) (filter (λ place. not (place.0 == l.number)) (enumerate_from l.i (drop l.i l.columns))) ≡ without_number l.number l.columns
