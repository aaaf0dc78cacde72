-- An event is written with names and goes by numbers; a name that names nothing gets the number past the end, which is that of no part.
use Rattle.std.specs.Prelude.{ℕ, List, map, length, unwrap_or}
use Rattle.bloom_forms.specs.Query.{Name}
use Rattle.sched_text.specs.declared.event.Sent.{Sent as SentName}
use Rattle.sched_text.specs.declared.event.Part.{Part as PartName}
use Rattle.sched_text.specs.declared.event.Event.{Event as NamedEvent}
use Rattle.sched_text.specs.declared.event.Event.TheVariants.{Deliver, Order, Take, Batch}
use Rattle.topo_forms.specs.View.{View, component_at, find_stream, find_component, find_port}
use Rattle.inbox.specs.Events.{Sent, Part, Event, deliver, batch, order, take_one}
use Rattle.sched_net.specs.declared.numbered.NumberedEvent.{NumberedEvent}
use Rattle.sched_net.specs.declared.numbered.NumberedEvent.TheVariants as numbers

-- ---- numbers of names

abbrev pub stream_number : View → Name → ℕ
stream_number v name = unwrap_or (find_stream v name) (length v.streams)

abbrev pub component_number : View → Name → ℕ
component_number v name = unwrap_or (find_component v name) (length v.components)

abbrev pub port_number : View → (component : ℕ) → Name → ℕ
port_number v c name = unwrap_or (find_port v c name) (length (component_at v c).ports)

-- ---- events by numbers

-- a message of a stream
abbrev pub numbered_sent : View → SentName → Sent
numbered_sent v sent = record { stream = stream_number v sent.stream; replica = sent.replica; index = sent.index }

-- a message that goes to a port of a component
abbrev pub numbered_part : View → (component : ℕ) → SentName → (port : Name) → Part
numbered_part v c sent port = record { sent = numbered_sent v sent; port = port_number v c port }

-- the parts of a batch
abbrev pub numbered_parts : View → (component : ℕ) → List PartName → List Part
numbered_parts v c parts = map (λ part. numbered_part v c part.sent part.port) parts

-- an event
abbrev pub numbered : View → NamedEvent → Event
numbered v (Deliver sent component port replica) = deliver (numbered_part v (component_number v component) sent port) (component_number v component) replica
numbered v (Order sent component port) = order (numbered_part v (component_number v component) sent port) (component_number v component)
numbered v (Take component replica) = take_one (component_number v component) replica
numbered v (Batch component replica parts) = batch (numbered_parts v (component_number v component) parts) (component_number v component) replica

-- the event that goes by these numbers
abbrev pub event_by_numbers : NumberedEvent → Event
event_by_numbers (numbers.Deliver part component replica) = deliver part component replica
event_by_numbers (numbers.Order part component) = order part component
event_by_numbers (numbers.Take component replica) = take_one component replica
