-- none of the streams so far goes to the port
use Rattle.std.proofs.Common.{◌≡◌, None}
use Rattle.std.specs.List.{find}
use Rattle.blz_value.specs.NumberSets.{below}
use Rattle.topo_forms.specs.View.{goes_to}
use Rattle.coord_modes.proofs.ports.first_into.Given as goal

abbrev pub invariant-loop-stream : goal.invariant-loop-stream
invariant-loop-stream l = find (goes_to l.valid.view l.component l.port) (below l.stream) ≡ None
