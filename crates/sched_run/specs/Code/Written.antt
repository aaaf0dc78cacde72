-- Lines of a schedule, as they are written of events by numbers.
use Rattle.std.specs.Prelude.{◌≡◌, ℕ, true, List, ◌++◌, map, codes}
use Rattle.inbox.specs.Events.{Sent as NumberedSent, Part as NumberedPart, Event as Numbered, deliver, batch, order, take_one}
use Rattle.sched_text.specs.Small.{IsSmall}
use Rattle.sched_text.specs.Text.{IsPrintable, is_printable, event_text}
use Rattle.sched_text.specs.declared.event.Event.{Event}
use Rattle.sched_text.specs.declared.event.Event.TheVariants.{Deliver, Order, Take, Batch}
use Rattle.sched_text.specs.declared.event.Part.{Part}
use Rattle.sched_text.specs.declared.event.Sent.{Sent}
use Rattle.topo_forms.specs.View.{View, component_at, port_at, stream_at}
use Rattle.sched_net.specs.Numbered.{numbered}
use Rattle.sched_net.specs.ScheduleLines.{Line}
use Rattle.sched_run.specs.Making.{CountFromOne}

-- they are numbered from 1 and can be printed
pub record AreLines (lines : List Line) : Type 0 where
  pub numbers : CountFromOne lines
  pub printable : IsPrintable lines

-- ---- names in place of numbers

-- a message by the name of its stream
abbrev pub sent_named : View → NumberedSent → Sent
sent_named v sent = record { stream = (stream_at v sent.stream).name; replica = sent.replica; index = sent.index }

-- a message that goes to a port of a component
abbrev pub part_named : View → (component : ℕ) → NumberedPart → Part
part_named v component part = record { sent = sent_named v part.sent; port = (port_at v component part.port).name }

-- an event
abbrev pub event_named : View → Numbered → Event
event_named v (deliver part component replica) = Deliver (sent_named v part.sent) (component_at v component).name (port_at v component part.port).name replica
event_named v (batch parts component replica) = Batch (component_at v component).name replica (map (part_named v component) parts)
event_named v (order part component) = Order (sent_named v part.sent) (component_at v component).name (port_at v component part.port).name
event_named v (take_one component replica) = Take (component_at v component).name replica

-- a text has the line of an event more, with the names that it goes by
pub record AddsLine (v : View) (event : Numbered) (old new : List ℕ) : Type 0 where
  pub named : Event
  pub event_is : numbered v named ≡ event
  pub printable : is_printable named ≡ true
  pub small : IsSmall named
  pub text : new ≡ old ++ (event_text named ++ codes "\n")
