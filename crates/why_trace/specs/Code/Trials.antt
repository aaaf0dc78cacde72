-- What a trial goes by, and what it tells.
use Rattle.std.specs.Prelude.{◌≡◌, ◌≢◌, Bool, false, Result, Ok, Err, List}
use Rattle.topo_forms.specs.Data.{Data}
use Rattle.topo_forms.specs.View.{View}
use Rattle.messages.specs.declared.fault.EventFault.TheVariants.{NoMemory}
use Rattle.sched_net.specs.declared.books.Books.{Books}
use Rattle.sched_net.specs.ScheduleLines.{Line}
use Rattle.sched_net.specs.Reading.{IsRead}
use Rattle.sched_net.specs.declared.running.StepRefusal.{StepRefusal}
use Rattle.why_trace.specs.declared.trial.Trial.{Trial}
use Rattle.why_trace.specs.Trim.{Wanted, wanted, has_record, yields}

-- a topology, its data, and the record that is looked for
pub record Sought : Type 0 where
  pub view : View
  pub given : Data
  pub wanted : Wanted

-- those of a trial
abbrev pub sought_of : Trial → Sought
sought_of trial = record { view = trial.valid.now.view; given = trial.given.now; wanted = wanted trial.stream trial.replica trial.row.now }

-- some lines yield the record
abbrev pub is_yielded_by : Sought → List Line → Bool
is_yielded_by sought lines = yields sought.view sought.given sought.wanted lines

-- what is found in books to which lines were so applied: the record where the execution has it, and nothing after a refusal
abbrev pub TellsFound : Sought → Books → Result (Unit {0}) StepRefusal → Bool → Type 0
TellsFound sought b (Ok x) found = IsRead sought.view b (λ given x. has_record sought.view given sought.wanted x) found
TellsFound sought b (Err refusal) found = (refusal.fault ≢ NoMemory) × (found ≡ false)
