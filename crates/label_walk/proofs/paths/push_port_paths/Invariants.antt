-- the paths of the streams so far
use Rattle.std.proofs.Common.{◌≡◌, ◌++◌, filter, map}
use Rattle.blz_value.specs.NumberSets.{below}
use Rattle.topo_forms.specs.View.{goes_to}
use Rattle.label_walk.specs.Paths.{path_label}
use Rattle.label_walk.proofs.paths.push_port_paths.Given as goal

abbrev pub invariant-loop-stream : goal.invariant-loop-stream
invariant-loop-stream l = l.paths.items ≡ l.initial.paths.items ++ map (path_label l.valid.view l.labels l.component l.port l.note) (filter (goes_to l.valid.view l.component l.port) (below l.stream))
