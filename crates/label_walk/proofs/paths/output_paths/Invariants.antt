-- the paths through the ports so far
use Rattle.std.proofs.Common.{◌≡◌}
use Rattle.std.specs.List.{flat_map}
use Rattle.blz_value.specs.NumberSets.{below}
use Rattle.topo_forms.specs.View.{note_at}
use Rattle.label_walk.specs.Paths.{port_paths}
use Rattle.label_walk.proofs.paths.output_paths.Given as goal

abbrev pub invariant-loop-port : goal.invariant-loop-port
invariant-loop-port l = l.paths.items ≡ flat_map (λ p. port_paths l.valid.view l.labels l.component p (note_at l.valid.view l.component p l.output)) (below l.port)
