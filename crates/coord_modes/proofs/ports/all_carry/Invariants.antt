-- all streams so far that go to the port carry the key
use Rattle.std.proofs.Common.{◌≡◌, true, filter}
use Rattle.std.specs.List.{list_all}
use Rattle.topo_forms.specs.Carried.{carries_key}
use Rattle.blz_value.specs.NumberSets.{below}
use Rattle.topo_forms.specs.View.{goes_to}
use Rattle.coord_modes.proofs.ports.all_carry.Given as goal

abbrev pub invariant-loop-stream : goal.invariant-loop-stream
invariant-loop-stream l = list_all (carries_key l.valid.view l.key.bits) (filter (goes_to l.valid.view l.component l.port) (below l.stream)) ≡ true
