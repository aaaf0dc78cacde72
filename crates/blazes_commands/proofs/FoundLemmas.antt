-- A command that finds something in executions is a part of the program that replies of what its checks gave.
use Rattle.std.proofs.Common.{Result}
use Rattle.blazes_words.specs.Words.{Asked, WhyWords, WitnessFiles}
use Rattle.command_checks.specs.Ends.{Source, files_states}
use Rattle.command_checks.specs.declared.reply.Reply.{Reply}
use Rattle.command_checks.specs.declared.stop.Stop.{Stop}
use Rattle.blazes_commands.specs.Finds.Finds.{SaysReasons, SaysWitness, explaining, witnessing}
use Rattle.blazes_commands.specs.Runs.Bench.{BenchStates}
use Rattle.blazes_commands.specs.Runs.Replies.{RepliesWith}
use Rattle.blazes_commands.proofs.Runs.RepliesLemmas.{work_replies}
use Rattle.blazes_commands.specs.Code.Ran.{RepliesTo}
use Rattle.blazes_commands.specs.Commands.{Says}
use Rattle.blazes_commands.specs.Commands.Work.{explained, witnessed}

module _ (a b : Source) (bench : BenchStates) (result : Result Reply Stop) where
  pub witness_replies : (asked : WitnessFiles) → RepliesWith SaysWitness (files_states a b) bench result (witnessing bench.kinds asked) → RepliesTo (Asked.witness asked) (files_states a b) bench result
  witness_replies asked told = work_replies SaysWitness Says a b bench (witnessing bench.kinds asked) witnessed result (λ found answer says. says) told

  pub why_replies : (asked : WhyWords) → RepliesWith SaysReasons (files_states a b) bench result (explaining bench.kinds asked) → RepliesTo (Asked.why asked) (files_states a b) bench result
  why_replies asked told = work_replies SaysReasons Says a b bench (explaining bench.kinds asked) explained result (λ found answer says. says) told
