-- no component so far is replicated
use Rattle.std.proofs.Common.{◌≡◌, false, take}
use Rattle.std.specs.List.{list_any}
use Rattle.topo_forms.specs.View.{is_replicated}
use Rattle.label_walk.proofs.cycles.is_one_replicated.Given as goal

abbrev pub invariant-loop-component : goal.invariant-loop-component
invariant-loop-component l = list_any (is_replicated l.valid.view) (take l.component-index l.components) ≡ false
