-- What a command returned, beside its script.
use Rattle.std.specs.Prelude.{Result}
use Rattle.blazes_words.specs.Words.{Asked}
use Rattle.command_checks.specs.Ends.{FilesStates}
use Rattle.command_checks.specs.declared.reply.Reply.{Reply}
use Rattle.command_checks.specs.declared.stop.Stop.{Stop}
use Rattle.blazes_commands.specs.Runs.Bench.{BenchStates}
use Rattle.blazes_commands.specs.Runs.Replies.{RepliesWith}
use Rattle.blazes_commands.specs.Commands.{Says, script}

-- the reply is the answer to what is asked
abbrev pub RepliesTo : Asked → FilesStates → BenchStates → Result Reply Stop → Type 0
RepliesTo asked files bench result = RepliesWith Says files bench result (script bench.kinds asked)
