-- In a complete execution each instance has heard all that its feeds have emitted.
use Rattle.std.specs.Prelude.{◌≡◌, ℕ, ◌==◌, Ok, List, map, filter, length}
use Rattle.std.specs.List.{flat_map, range_with_len}
use Rattle.blz_value.specs.Record.{Row}
use Rattle.blz_value.specs.Sets.{set_of}
use Rattle.bloom_forms.specs.Step.{Sets}
use Rattle.topo_forms.specs.Data.{Data}
use Rattle.inbox.specs.Instances.{Instance}
use Rattle.inbox.specs.Wiring.{Wiring, instance_at}
use Rattle.inbox.specs.Executions.{Execution, contents, execution_of_events, execution_of}
use Rattle.inbox.specs.Completeness.{IsComplete}
use Rattle.inbox.specs.Events.{Event, Step}

-- steps that are legal reach this execution, and it is complete
pub record IsCompleted (w : Wiring) (given : Data) (x : Execution) : Type 0 where
  pub steps : List Step
  pub legal : execution_of w given steps ≡ Ok x
  pub complete : IsComplete w given x

-- the same without forgets
pub record IsRun (w : Wiring) (given : Data) (x : Execution) : Type 0 where
  pub events : List Event
  pub legal : execution_of_events w given events ≡ Ok x
  pub complete : IsComplete w given x

-- the union of the contents of the feeds of an instance at a port
abbrev pub contents_at : Wiring → Data → Execution → Instance → (port : ℕ) → List Row
contents_at w given x i port = set_of (flat_map (λ feed. contents w given x feed.stream feed.sender) (filter (λ feed. feed.port == port) i.feeds))

-- at each port of an instance
abbrev pub contents_into : Wiring → Data → Execution → (component replica : ℕ) → Sets
contents_into w given x component replica =
    let i = instance_at w component replica in
    map (contents_at w given x i) (range_with_len 0 (length i.ports))
