-- no key of the ports so far is kept
use Rattle.std.proofs.Common.{◌≡◌, None}
use Rattle.std.specs.List.{filter_map, find}
use Rattle.topo_forms.specs.Carried.{port_key}
use Rattle.blz_value.specs.NumberSets.{below}
use Rattle.coord_modes.specs.Plan.{is_good, trial}
use Rattle.coord_modes.proofs.component.kept_key_of_ports.Given as goal

abbrev pub invariant-loop-port : goal.invariant-loop-port
invariant-loop-port l = find (λ key. is_good (trial l.now.view l.component key) l.component) (filter_map (port_key l.now.view l.component) (below l.port)) ≡ None
