-- The tables with which the instances of a topology end.
use Rattle.std.specs.Prelude.{ℕ, List, map}
use Rattle.std.specs.List.{flat_map}
use Rattle.bloom_forms.specs.Step.{Sets}
use Rattle.blz_value.specs.NumberSets.{below}
use Rattle.topo_forms.specs.View.{View, replicas_of, component_numbers}
use Rattle.inbox.specs.Executions.{Execution}
use Rattle.inbox.specs.Lives.{kept_after}
use Rattle.inbox.specs.Wiring.{instance_for}

-- those with which the last life of an instance ends
abbrev pub tables_at : View → Execution → (component replica : ℕ) → Sets
tables_at v x c r = (kept_after (instance_for v c r) (x.logs c) (x.lives c r)).tables

-- those of all instances, in component and replica order
abbrev pub last_tables : View → Execution → List Sets
last_tables v x = flat_map (λ c. map (tables_at v x c) (below (replicas_of v c))) (component_numbers v)
