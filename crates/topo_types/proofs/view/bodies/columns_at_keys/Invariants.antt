use Rattle.std.proofs.Common.{◌≡◌, ◌++◌, map, filter, drop}
use Rattle.std.specs.Prelude.{◌==◌}
use Rattle.std.specs.List.{enumerate_from, list_any}
use Rattle.topo_types.specs.Code.Chosen.{with_keys}
use Rattle.topo_types.proofs.view.bodies.columns_at_keys.Given as goal

abbrev pub invariant-loop-i : goal.invariant-loop-i
invariant-loop-i l = l.copies.items ++ map (λ place. place.1) (filter (λ place. list_any (λ key. key == place.0) l.keys) (enumerate_from l.i (drop l.i l.columns))) ≡ with_keys l.keys l.columns
