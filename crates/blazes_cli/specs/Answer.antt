-- What the program answers to its words and to the files that it reads.
use Rattle.std.specs.Prelude.{◌≡◌, Option, Some, None}
use Rattle.blazes_commands.specs.Answer.{IsAnswered}
use Rattle.blazes_commands.specs.Runs.Bench.{BenchStates}
use Rattle.command_checks.specs.Reply.{Answer}
use Rattle.blazes_commands.specs.Commands.{script}
use Rattle.command_checks.specs.Ends.{FilesStates}
use Rattle.blazes_words.specs.Words.{Asked}
use Rattle.command_checks.specs.declared.status.Status.TheVariants.{Usage}
use Rattle.blazes_cli.specs.Lines.{usage_line}

-- the usage line, and no file was read
pub record IsUsage (files : FilesStates) (answer : Answer) : Type 0 where
  pub says : answer ≡ record { status = Usage; text = usage_line }
  pub unread : files.after ≡ files.before

-- the status and the text that are to be written for what is asked
abbrev pub IsReply : Option Asked → FilesStates → BenchStates → Answer → Type 0
IsReply None files bench answer = IsUsage files answer
IsReply (Some asked) files bench answer = IsAnswered (script bench.kinds asked) files bench answer
