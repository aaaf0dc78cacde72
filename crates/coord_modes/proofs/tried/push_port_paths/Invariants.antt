-- the paths of the streams so far
use Rattle.std.proofs.Common.{◌≡◌, ◌++◌, filter, map}
use Rattle.blz_value.specs.NumberSets.{below}
use Rattle.topo_forms.specs.View.{goes_to}
use Rattle.coord_modes.specs.Code.Tried.{path_with}
use Rattle.coord_modes.proofs.tried.push_port_paths.Given as goal

abbrev pub invariant-loop-stream : goal.invariant-loop-stream
invariant-loop-stream l = l.paths.items ≡ l.initial.paths.items ++ map (path_with l.valid.view l.labels l.end.0 l.end.1 l.mode l.note) (filter (goes_to l.valid.view l.end.0 l.end.1) (below l.stream))
