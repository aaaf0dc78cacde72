-- Lines and a text, as far as they are written.
use Rattle.std.proofs.Common.{◌≡◌, ℕ, List, map, take}
use Rattle.std.specs.List.{All}
use Rattle.sched_text.specs.Small.{IsSmall}
use Rattle.sched_text.specs.Text.{schedule_text}
use Rattle.topo_forms.specs.View.{View}
use Rattle.sched_net.specs.Numbered.{event_by_numbers}
use Rattle.sched_net.specs.declared.numbered.NumberedEvent.{NumberedEvent}
use Rattle.sched_net.specs.ScheduleLines.{events_of, Line}
use Rattle.sched_run.specs.Code.Written.{AreLines}

-- they are those of the first events, so many
pub record AreLinesOf (v : View) (events : List NumberedEvent) (count : ℕ) (lines : List Line) : Type 0 where
  pub lined : AreLines lines
  pub are : events_of v lines ≡ map event_by_numbers (take count events)

-- a text is that of lines of the first events, so many, whose numbers are small
pub record IsTextSoFar (v : View) (events : List NumberedEvent) (count : ℕ) (text : List ℕ) : Type 0 where
  pub lines : List Line
  pub are : AreLinesOf v events count lines
  pub is : text ≡ schedule_text lines
  pub small : All (λ line. IsSmall line.1) lines
