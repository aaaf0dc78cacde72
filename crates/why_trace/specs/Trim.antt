-- The lines of a schedule that a record needs: those that are left after passes in which each goes without which the others still yield it.
use Rattle.std.specs.Prelude.{ℕ, ◌&&◌, nat_lt, Bool, false, Result, Ok, Err, List}
use Rattle.std.specs.List.{list_any}
use Rattle.blz_value.specs.Record.{Row}
use Rattle.topo_forms.specs.Data.{Data}
use Rattle.topo_forms.specs.Messages.{is_same_row}
use Rattle.topo_forms.specs.View.{View, stream_replicas}
use Rattle.inbox.specs.Executions.{Execution, first_execution, contents}
use Rattle.inbox.specs.Wiring.{wiring_of}
use Rattle.sched_net.specs.ScheduleLines.{Line}
use Rattle.sched_net.specs.Steps.{after_lines}
use Rattle.sched_net.specs.declared.running.StepRefusal.{StepRefusal}
use Rattle.sched_net.specs.declared.step.Step.TheVariants as named
use Rattle.why_trace.specs.Passes.{trim_by}

-- a record that is looked for, with its stream and the sending replica
pub record Wanted : Type 0 where
  pub stream : ℕ
  pub replica : ℕ
  pub row : Row

abbrev pub wanted : (stream replica : ℕ) → Row → Wanted
wanted stream replica row = record { stream = stream; replica = replica; row = row }

-- the replica sends the stream, and the contents there have the record
abbrev pub has_record : View → Data → Wanted → Execution → Bool
has_record v given sought x = nat_lt sought.replica (stream_replicas v sought.stream) && list_any (is_same_row sought.row) (contents (wiring_of v) given x sought.stream sought.replica)

-- so it is at the end of lines of which none is refused
abbrev pub has_at_end : View → Data → Wanted → Result Execution StepRefusal → Bool
has_at_end v given sought (Ok x) = has_record v given sought x
has_at_end v given sought (Err refusal) = false

-- lines yield the record: each event is legal when it comes and meets no limit, and the contents at the end have the record
unfoldable pub yields : View → Data → Wanted → List Line → Bool
yields v given sought lines = has_at_end v given sought (after_lines named.Event v given lines first_execution)

-- the lines that are needed, with their numbers
abbrev pub trim : View → Data → Wanted → List Line → List Line
trim v given sought lines = trim_by (yields v given sought) lines
