use Rattle.std.proofs.Common.{◌≡◌, map, take}
use Rattle.topo_forms.proofs.index.component_names.Given as goal

abbrev pub invariant-loop-component : goal.invariant-loop-component
invariant-loop-component l = map (λ name. name.now) l.names.items ≡ map (λ x. x.name) (take l.component-index l.components)
