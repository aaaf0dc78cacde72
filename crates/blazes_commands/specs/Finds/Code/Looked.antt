-- What a net answers where a record is looked for.
use Rattle.std.specs.Prelude.{List, Result, Ok, Err}
use Rattle.bloom_eval.specs.declared.kind.ProgramKind.{ProgramKind}
use Rattle.topo_forms.specs.Data.{Data}
use Rattle.topo_forms.specs.View.{View}
use Rattle.inbox.specs.Events.{Step}
use Rattle.sched_net.specs.Net.{BooksStand, execution_in}
use Rattle.sched_net.specs.declared.books.Books.{Books}
use Rattle.sched_net.specs.ScheduleLines.{Line}
use Rattle.sched_net.specs.declared.running.StepRefusal.{StepRefusal}
use Rattle.why_trace.specs.Trim as trim
use Rattle.blazes_words.specs.Words.{WhyWords}
use Rattle.blazes_commands.specs.Runs.Checks.{event_refusal}
use Rattle.command_checks.specs.Ran.{IsStopAt, RanAtOnce}
use Rattle.command_checks.specs.Script.{Script, ◌>>=◌}
use Rattle.command_checks.specs.declared.stop.Stop.{Stop}
use Rattle.blazes_commands.specs.Finds.Checks as check
use Rattle.blazes_commands.specs.Finds.Finds.{Explained, finding}
use Rattle.blazes_commands.specs.declared.find_calls.finding.Wanted.{Wanted}

-- a record that is looked for, as its definition has it
abbrev pub wanted_shown : Wanted → trim.Wanted
wanted_shown wanted = record { stream = wanted.stream; replica = wanted.replica; row = wanted.row }

-- the record that the words name, of whatever execution the books stand for
abbrev pub LooksIn : View → Books → WhyWords → Result Wanted Stop → Type 0
LooksIn v b words result = (given : Data) (steps : List Step) (stand : BooksStand v given steps b) → RanAtOnce wanted_shown result (check.wanted v given (execution_in stand) words)

-- so it is where the events were so applied
abbrev pub IsLookedIn : View → Books → WhyWords → Result (Unit {0}) StepRefusal → Result Wanted Stop → Type 0
IsLookedIn v b words (Ok x) result = LooksIn v b words result
IsLookedIn v b words (Err refused) (Ok wanted) = ⊥
IsLookedIn v b words (Err refused) (Err stop) = IsStopAt (event_refusal refused.line refused.fault) stop

-- what follows in `why` on a topology and its data
abbrev pub finding_file : List ProgramKind → WhyWords → View → Data → Script Explained
finding_file kinds words v given = do
  lines ← check.few_events_file words.schedule
  finding kinds v given lines words

-- the events, data and words of a record that is looked for
abbrev pub explained_by : View → Data → List Line → trim.Wanted → Explained
explained_by v given lines wanted = record { view = v; given = given; lines = lines; wanted = wanted }
