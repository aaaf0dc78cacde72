-- The laws of executions, complete or not, with forgets or without, each in one word.
use Rattle.std.specs.Prelude.{◌≡◌, ◌↔◌, ℕ, ◌<◌, Ok, List, length, take}
use Rattle.blz_value.specs.declared.attrs.Attrs.{Attrs}
use Rattle.bloom_forms.specs.declared.program.Program.{Program}
use Rattle.bloom_forms.specs.declared.mode.Mode.TheVariants.{Seal}
use Rattle.topo_forms.specs.Data.{Data}
use Rattle.messages.specs.Messages.{Batch, Entry, all_pairs}
use Rattle.inbox.specs.Instances.{Instance}
use Rattle.inbox.specs.Timesteps.{timesteps, Stands, Goes}
use Rattle.inbox.specs.Wiring.{Wiring}
use Rattle.inbox.specs.Executions.{Execution, after_step, execution_of, emitted_list, contents}
use Rattle.inbox.specs.Growth.{IsExtendedBy, TakesWithinLogs, HearsWhatIsSent, LogsWhatIsSent, NoRepeats, WasSentBefore}
use Rattle.inbox.specs.Events.{Step}
use Rattle.inbox.specs.OrderReplicas.{IsOrderOutput, most_taken}
use Rattle.inbox.specs.Folds.{fold_rows}

-- each legal step only lengthens emitted lists and logs
abbrev pub ListsGrow : Type 0
ListsGrow = (w : Wiring) (given : Data) (steps : List Step) (step : Step) (x y : Execution) → execution_of w given steps ≡ Ok x → after_step w given step x ≡ Ok y → IsExtendedBy w given x y

-- what was heard or logged stands in the emitted list of its feed, and no replica took more than its log has
pub record IsSent (w : Wiring) (given : Data) (x : Execution) : Type 0 where
  pub takes : TakesWithinLogs x
  pub hears : HearsWhatIsSent w given x
  pub logs : LogsWhatIsSent w given x

-- so it is after any legal steps
abbrev pub AllIsSent : Type 0
AllIsSent = (w : Wiring) (given : Data) (steps : List Step) (x : Execution) → execution_of w given steps ≡ Ok x → IsSent w given x

-- what instances have heard and what logs hold after a step stood in emitted lists before it
abbrev pub AllWasSentBefore : Type 0
AllWasSentBefore = (w : Wiring) (given : Data) (steps : List Step) (step : Step) (x y : Execution) → execution_of w given steps ≡ Ok x → after_step w given step x ≡ Ok y → WasSentBefore w given x y

-- in an emitted list no record and no seal of a partition comes again
abbrev pub ListsDontRepeat : Type 0
ListsDontRepeat = (w : Wiring) (given : Data) (x : Execution) (stream replica : ℕ) → NoRepeats (emitted_list w given x stream replica)

-- under Seal a record stands in a timestep exactly where it was heard and waits for nothing
abbrev pub SealedTimesteps : Type 0
SealedTimesteps = (i : Instance) (key : Attrs) (batches : List Batch) (entry : Entry) → i.mode ≡ Seal key → entry.0 < length i.ports → Stands (timesteps i batches) entry ↔ Goes i (all_pairs batches) entry

-- what a replica has put out is what its program gives over a beginning of the log, one entry a timestep: as far as the longest of its lives came
abbrev pub SequencerLaw : Type 0
SequencerLaw = (w : Wiring) (d : Data) (x : Execution) (s c o i : ℕ) (program : Program) → IsOrderOutput w s c o i program
    → contents w d x s i ≡ fold_rows program (take (most_taken (x.lives c i)) (x.logs c)) o
