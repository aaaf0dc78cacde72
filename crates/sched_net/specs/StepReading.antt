-- A line of a replay is one of a schedule, or one by which an instance forgets.
use Rattle.std.specs.Prelude.{List, Option, if◌then◌else◌, codes}
use Rattle.std.specs.Option.{option_map}
use Rattle.std.specs.Str.{bytes_eq}
use Rattle.sched_net.specs.declared.step.Step.{Step}
use Rattle.sched_net.specs.declared.step.Step.TheVariants as steps
use Rattle.sched_text.specs.Fields.{Field, ◌>>=◌}
use Rattle.sched_text.specs.Kinds.{name_at, number_at, at_end, event_of}
use Rattle.sched_text.specs.Lines.{Line}
use Rattle.sched_text.specs.Reading.{LineReading, reading_of_line}

-- forget COMPONENT REPLICA
abbrev pub forget_of : List Field → Option Step
forget_of fields = do
  component ← name_at fields
  replica ← number_at component.1
  at_end (steps.Forget component.0 replica.0) replica.1

-- the step of a line, by its first field and the others
abbrev pub step_of : Field → List Field → Option Step
step_of first others = if bytes_eq first (codes "forget") then forget_of others else option_map steps.Event (event_of first others)

-- what a line of a replay reads as
abbrev pub step_reading : Line → LineReading Step
step_reading line = reading_of_line step_of line
