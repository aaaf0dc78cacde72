use Rattle.std.proofs.Common.{◌≡◌, replicate}
use Rattle.std.specs.List.{flat_map}
use Rattle.blz_value.specs.NumberSets.{below}
use Rattle.topo_forms.specs.View.{replicas_of}
use Rattle.sched_net.proofs.bench.components_of_instances.Given as goal

abbrev pub invariant-loop-component : goal.invariant-loop-component
invariant-loop-component l = l.list.items ≡ flat_map (λ c. replicate (replicas_of l.valid.view c) c) (below l.component)
