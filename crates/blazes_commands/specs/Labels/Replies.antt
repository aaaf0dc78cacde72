-- What a part of the program replies of what its checks gave.
use Rattle.std.specs.Prelude.{Result, Ok, Err}
use Rattle.command_checks.specs.Ends.{FilesStates, Came}
use Rattle.command_checks.specs.Ran.{Stopped, answer_of}
use Rattle.command_checks.specs.Reply.{Answer}
use Rattle.command_checks.specs.Script.{Script, Ending}
use Rattle.command_checks.specs.declared.reply.Reply.{Reply}
use Rattle.command_checks.specs.declared.stop.Stop.{Stop}

-- the script gave something over this source, and the answer says this of it
pub record IsAnswerOf {A : Type 0} (Said : A → Answer → Type 0) (files : FilesStates) (script : Script A) (answer : Answer) : Type 0 where
  pub given : A
  pub came : Came files script (Ending.gave given)
  pub says : Said given answer

-- the reply is such an answer, or the script ends as the stop says; nothing is said where memory ran out
abbrev pub RepliesOf : {A : Type 0} → (A → Answer → Type 0) → FilesStates → Result Reply Stop → Script A → Type 0
RepliesOf Said files (Ok reply) script = IsAnswerOf Said files script (answer_of reply)
RepliesOf Said files (Err stop) script = Stopped files stop script
