-- An event by numbers has names where all that it speaks of is there, and such events can be written as a schedule.
use Rattle.std.specs.Prelude.{◌≤◌, ◌<◌, ℕ, List, length}
use Rattle.std.specs.List.{All}
use Rattle.topo_forms.specs.View.{View, component_at}
use Rattle.inbox.specs.Events.{Part, Event, deliver, batch, order, take_one}
use Rattle.sched_run.specs.Made.{event_limit}

-- a message that goes to a port of a component has names: its stream is there, and the port is
pub record HasPartNames (v : View) (component : ℕ) (part : Part) : Type 0 where
  pub there : component < length v.components
  pub port : part.port < length (component_at v component).ports
  pub stream : part.sent.stream < length v.streams

-- an event has names
abbrev pub HasEventNames : View → Event → Type 0
HasEventNames v (deliver part component replica) = HasPartNames v component part
HasEventNames v (batch parts component replica) = (component < length v.components) × All (HasPartNames v component) parts
HasEventNames v (order part component) = HasPartNames v component part
HasEventNames v (take_one component replica) = component < length v.components

-- events have names, and aren't more than a schedule that is made may have
pub record CanBeWritten (v : View) (events : List Event) : Type 0 where
  pub few : length events ≤ event_limit
  pub named : All (HasEventNames v) events
