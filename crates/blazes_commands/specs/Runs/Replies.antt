-- What a command that has a bench replies of what its checks gave, whatever that is.
use Rattle.std.specs.Prelude.{Result, Ok, Err}
use Rattle.command_checks.specs.Ends.{Source, FilesStates, files_states, Came}
use Rattle.command_checks.specs.Ran.{Stopped, answer_of}
use Rattle.command_checks.specs.Reply.{Answer}
use Rattle.command_checks.specs.Script.{Script, Ending}
use Rattle.command_checks.specs.declared.reply.Reply.{Reply}
use Rattle.command_checks.specs.declared.stop.Stop.{Stop}
use Rattle.command_checks.specs.declared.stop.Stop.TheVariants.{Refused, Failed, NoMemory}
use Rattle.blazes_commands.specs.Runs.Bench.{BenchStates, HasSameKinds}

-- the script gave something over this source, and this is said of it by the answer and the bench
pub record IsAnsweredWith {A : Type 0} (Said : A → BenchStates → Answer → Type 0) (files : FilesStates) (bench : BenchStates) (script : Script A) (answer : Answer) : Type 0 where
  pub given : A
  pub came : Came files script (Ending.gave given)
  pub says : Said given bench answer

-- the reply is such an answer, or the script ends as the stop says; nothing is said where memory ran out
abbrev pub RepliesWith : {A : Type 0} → (A → BenchStates → Answer → Type 0) → FilesStates → BenchStates → Result Reply Stop → Script A → Type 0
RepliesWith Said files bench (Ok reply) script = IsAnsweredWith Said files bench script (answer_of reply)
RepliesWith Said files bench (Err stop) script = Stopped files stop script

-- so it is of a script that reads no file, whatever the source
abbrev pub RepliesAtOnce : {A : Type 0} → (A → BenchStates → Answer → Type 0) → BenchStates → Result Reply Stop → Script A → Type 0
RepliesAtOnce Said bench result script = (files : Source) → RepliesWith Said (files_states files files) bench result script

-- as many shells of each kind as before, unless memory runs out
abbrev pub KeepsKinds : BenchStates → Result Reply Stop → Type 0
KeepsKinds bench (Ok reply) = HasSameKinds bench
KeepsKinds bench (Err (Refused line)) = HasSameKinds bench
KeepsKinds bench (Err (Failed name)) = HasSameKinds bench
KeepsKinds bench (Err NoMemory) = Unit {0}
