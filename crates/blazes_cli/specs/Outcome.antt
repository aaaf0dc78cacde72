-- How a call of the program ends: in its status, in what it has written and in the counts of faults.
use Rattle.std.specs.Prelude.{◌≡◌, ◌⊎◌, ℕ, ◌<◌, ◌≤◌, List, Option, IfSome, IsSomeAnd, length, take}
use Rattle.blz_outside.specs.Counts.{Rose}
use Rattle.blz_outside.specs.Files.{FileMap}
use Rattle.blz_outside.specs.Sink.{Grows, Falls}
use Rattle.bloom_eval.specs.declared.kind.ProgramKind.{ProgramKind}
use Rattle.blazes_commands.specs.Runs.Bench.{BenchStates}
use Rattle.command_checks.specs.Script.{Bytes, IsFailed}
use Rattle.command_checks.specs.Ends.{FilesStates, ended}
use Rattle.blazes_words.specs.Words.{request_of}
use Rattle.command_checks.specs.Reply.{Answer}
use Rattle.blazes_commands.specs.Commands.{script}
use Rattle.blazes_cli.specs.Answer.{IsReply}
use Rattle.command_checks.specs.declared.status.Status.{Status}
use Rattle.command_checks.specs.declared.status.Status.TheVariants.{Done, Refused, Usage, ReadFault, WriteFault, Incomplete, NoMemory}

-- a sink before and after the call
pub record SinkStates : Type 0 where
  pub written : Option (List ℕ)
  pub written_after : Option (List ℕ)
  pub room : Option ℕ
  pub room_after : Option ℕ
  pub faults : ℕ
  pub faults_after : ℕ

abbrev pub sink_states : Option (List ℕ) → Option (List ℕ) → Option ℕ → Option ℕ → ℕ → ℕ → SinkStates
sink_states written written_after room room_after faults faults_after =
    record { written = written; written_after = written_after; room = room; room_after = room_after; faults = faults; faults_after = faults_after }

-- all of the text was written
pub record WroteAll (sink : SinkStates) (text : List ℕ) : Type 0 where
  pub grows : Grows sink.written sink.written_after text
  pub falls : Falls sink.room sink.room_after (length text)
  pub quiet : sink.faults_after ≡ sink.faults

-- a write failed: some of the text's first bytes were written, and there was no sure room for all of it
pub record WroteFront (sink : SinkStates) (text : List ℕ) : Type 0 where
  pub rose : Rose sink.faults sink.faults_after
  pub count : ℕ
  pub within : count ≤ length text
  pub grows : Grows sink.written sink.written_after (take count text)
  pub falls : Falls sink.room sink.room_after count
  pub unsure : IfSome sink.room (λ room. room < length text)

-- nothing was written
pub record WroteNothing (sink : SinkStates) : Type 0 where
  pub same : sink.written_after ≡ sink.written
  pub room : sink.room_after ≡ sink.room
  pub quiet : sink.faults_after ≡ sink.faults

-- how a reply is written
abbrev pub IsSaid : SinkStates → Status → List ℕ → Status → Type 0
IsSaid sink status text result = ((result ≡ status) × WroteAll sink text) ⊎ ((result ≡ WriteFault) × WroteFront sink text)

-- how the call ends, by its status
abbrev pub IsOutcome : List Bytes → FilesStates → BenchStates → SinkStates → Status → Type 0
IsOutcome words files bench sink NoMemory = WroteNothing sink
IsOutcome words files bench sink WriteFault = (answer : Answer) × IsReply (request_of words) files bench answer × WroteFront sink answer.text
IsOutcome words files bench sink status = (text : Bytes) × IsReply (request_of words) files bench (record { status = status; text = text }) × WroteAll sink text

-- over these files, the checks of what the words ask for reach the name of a file that isn't held
abbrev pub Misses : List ProgramKind → FileMap → List Bytes → Type 0
Misses kinds held words = IsSomeAnd (request_of words) (λ asked. IsFailed (ended held (script kinds asked)))

-- the answer to words that ask for nothing
abbrev pub IsUsageOrLost : Status → Type 0
IsUsageOrLost Usage = Unit {0}
IsUsageOrLost WriteFault = Unit {0}
IsUsageOrLost NoMemory = Unit {0}
IsUsageOrLost Done = ⊥
IsUsageOrLost Refused = ⊥
IsUsageOrLost ReadFault = ⊥
IsUsageOrLost Incomplete = ⊥

-- the answer where a read failed
abbrev pub IsReadFaultOrLost : Status → Type 0
IsReadFaultOrLost ReadFault = Unit {0}
IsReadFaultOrLost WriteFault = Unit {0}
IsReadFaultOrLost NoMemory = Unit {0}
IsReadFaultOrLost Done = ⊥
IsReadFaultOrLost Refused = ⊥
IsReadFaultOrLost Usage = ⊥
IsReadFaultOrLost Incomplete = ⊥
