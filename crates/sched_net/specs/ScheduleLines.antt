-- The lines of a schedule.
use Rattle.std.specs.Prelude.{ℕ, List, map}
use Rattle.sched_text.specs.declared.event.Event.{Event as NamedEvent}
use Rattle.topo_forms.specs.View.{View}
use Rattle.inbox.specs.Events.{Event, Step, event}
use Rattle.sched_net.specs.Numbered.{numbered}

-- a line of a schedule: its number and its event
abbrev pub Line : Type 0
Line = ℕ × NamedEvent

-- the steps of some lines
abbrev pub steps_of : View → List Line → List Step
steps_of v lines = map (λ line. event (numbered v line.1)) lines

-- the events of lines, by numbers
abbrev pub events_of : View → List Line → List Event
events_of v lines = map (λ line. numbered v line.1) lines
