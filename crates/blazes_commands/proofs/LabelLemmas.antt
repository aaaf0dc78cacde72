-- A command that knows no data is a part of the program that replies of what its checks gave.
use Rattle.std.proofs.Common.{Result, Ok, Err, subst}
use Rattle.report_lines.specs.DeriveText.{derive_text}
use Rattle.report_lines.specs.LabelText.{label_text}
use Rattle.topo_forms.specs.Valid.{Validated}
use Rattle.command_checks.specs.Ends.{Source, files_states}
use Rattle.command_checks.specs.Ran.{answer_of}
use Rattle.command_checks.specs.Reply.{Answer}
use Rattle.command_checks.specs.Script.{Bytes, Script, ◌>>=◌}
use Rattle.command_checks.specs.Script.Script.{gives}
use Rattle.command_checks.specs.declared.reply.Reply.{Reply}
use Rattle.command_checks.specs.declared.stop.Stop.{Stop}
use Rattle.command_checks.proofs.ScriptLemmas.{stop_then}
use Rattle.blazes_commands.specs.Labels.Answers.{HasLabels, HasPlan, HasShards}
use Rattle.blazes_commands.specs.Labels.Replies.{RepliesOf}
use Rattle.blazes_commands.specs.Labels.Shards.{shards}
use Rattle.blazes_words.specs.Words.{Asked, ShardWords}
use Rattle.blazes_commands.specs.Runs.Bench.{BenchStates}
use Rattle.blazes_commands.specs.Runs.Replies.{RepliesWith}
use Rattle.blazes_commands.proofs.Runs.RepliesLemmas.{followed, in_turn}
use Rattle.blazes_commands.specs.Checks as check
use Rattle.blazes_commands.specs.Code.Ran.{RepliesTo}
use Rattle.blazes_commands.specs.Commands.{Work, Says}
use Rattle.blazes_commands.specs.Commands.Work.{labelled, derived, planned, sharded}

-- a part that replies of what its checks gave replies to the command of these checks
part_replies : {A : Type 0} (a b : Source) (bench : BenchStates) (s : Script A) (work : A → Work) (Said : A → Answer → Type 0) (result : Result Reply Stop)
    → ((x : A) (answer : Answer) → Said x answer → Says (work x) bench answer) → RepliesOf Said (files_states a b) result s → RepliesWith Says (files_states a b) bench result (s >>= λ x. gives (work x))
part_replies a b bench s work Said (Ok reply) says told = followed Says a b bench s work told.given (answer_of reply) told.came (says told.given (answer_of reply) told.says)
part_replies a b bench s work Said (Err stop) says stopped = stop_then (files_states a b) stop s (λ x. gives (work x)) stopped

module _ (a b : Source) (bench : BenchStates) (result : Result Reply Stop) where
  pub label_replies : (name : Bytes) → RepliesOf (λ (seen : Validated). HasLabels label_text seen.view) (files_states a b) result (check.valid_topology name) → RepliesTo (Asked.label name) (files_states a b) bench result
  label_replies name told = part_replies a b bench (check.valid_topology name) labelled (λ (seen : Validated). HasLabels label_text seen.view) result (λ seen answer says. says) told

  pub derive_replies : (name : Bytes) → RepliesOf (λ (seen : Validated). HasLabels derive_text seen.view) (files_states a b) result (check.valid_topology name) → RepliesTo (Asked.derive name) (files_states a b) bench result
  derive_replies name told = part_replies a b bench (check.valid_topology name) derived (λ (seen : Validated). HasLabels derive_text seen.view) result (λ seen answer says. says) told

  pub plan_replies : (name : Bytes) → RepliesOf HasPlan (files_states a b) result (check.valid_topology name) → RepliesTo (Asked.plan name) (files_states a b) bench result
  plan_replies name told = part_replies a b bench (check.valid_topology name) planned HasPlan result (λ seen answer says. says) told

  pub shard_replies : (asked : ShardWords) → RepliesOf HasShards (files_states a b) result (shards asked) → RepliesTo (Asked.shard asked) (files_states a b) bench result
  shard_replies asked told =
      subst (λ (checks : Script Work). RepliesWith Says (files_states a b) bench result checks)
      (in_turn (check.with_modules asked.topology) (λ found. check.sharding found asked) (λ copies. gives (sharded copies)))
      (part_replies a b bench (shards asked) sharded HasShards result (λ copies answer says. says) told)
