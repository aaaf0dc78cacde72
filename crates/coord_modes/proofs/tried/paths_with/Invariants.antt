-- the paths through the ports so far
use Rattle.std.proofs.Common.{◌≡◌}
use Rattle.std.specs.List.{flat_map}
use Rattle.blz_value.specs.NumberSets.{below}
use Rattle.topo_forms.specs.View.{note_at}
use Rattle.coord_modes.specs.Code.Tried.{port_paths_with}
use Rattle.coord_modes.proofs.tried.paths_with.Given as goal

abbrev pub invariant-loop-port : goal.invariant-loop-port
invariant-loop-port l = l.paths.items ≡ flat_map (λ p. port_paths_with l.valid.view l.labels l.component p l.mode (note_at l.valid.view l.component p l.output)) (below l.port)
