-- What a command answers to the files that it reads.
use Rattle.std.specs.Prelude.{◌≡◌}
use Rattle.command_checks.specs.Script.{Script, Ending}
use Rattle.command_checks.specs.Ends.{FilesStates, Came}
use Rattle.command_checks.specs.Reply.{Answer}
use Rattle.blazes_commands.specs.Commands.{Work, Says}
use Rattle.blazes_commands.specs.Runs.Bench.{BenchStates}
use Rattle.command_checks.specs.Lines.{cannot_read}
use Rattle.command_checks.specs.declared.status.Status.TheVariants.{Refused, ReadFault}

-- the answer where a script has ended so
abbrev pub Answers : Ending Work → BenchStates → Answer → Type 0
Answers (Ending.gave work) bench answer = Says work bench answer
Answers (Ending.refused line) bench answer = answer ≡ record { status = Refused; text = line }
Answers (Ending.failed name) bench answer = answer ≡ record { status = ReadFault; text = cannot_read name }

-- the script came to some end over this source, and this is the answer
pub record IsAnswered (checks : Script Work) (files : FilesStates) (bench : BenchStates) (answer : Answer) : Type 0 where
  pub ending : Ending Work
  pub came : Came files checks ending
  pub answers : Answers ending bench answer
