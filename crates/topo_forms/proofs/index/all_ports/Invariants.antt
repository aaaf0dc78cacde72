use Rattle.std.proofs.Common.{◌≡◌, length}
use Rattle.topo_forms.specs.Code.Index.{AllPlaces}
use Rattle.topo_forms.proofs.index.all_ports.Given as goal

abbrev pub invariant-loop-component : goal.invariant-loop-component
invariant-loop-component l = (length l.all.items ≡ l.component-index) × AllPlaces l.components l.all.items
