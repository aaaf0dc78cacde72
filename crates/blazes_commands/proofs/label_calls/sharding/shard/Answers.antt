use Rattle.blazes_words.specs.Requests.{shard_shown}
use Rattle.command_checks.specs.Ends.{files_states, source}
use Rattle.command_checks.specs.Found.{found_shown}
use Rattle.blazes_commands.specs.Labels.Answers.{HasShards}
use Rattle.blazes_commands.specs.Labels.Shards as shards
use Rattle.blazes_commands.proofs.Labels.RepliesLemmas.{lost_replied}
use Rattle.blazes_commands.proofs.Labels.ShardLemmas.{topology_stops, copies_stop, copies_come}
use Rattle.blazes_commands.proofs.label_calls.sharding.shard.Goals as goal

pub returns-in_err-found : goal.returns-in_err-found
returns-in_err-found g c =
    let a = source (g.F.Files.held c.args.files.now) (g.F.Files.steady c.args.files.now) (g.F.Files.faults c.args.files.now) in
    let b = source (g.F.Files.held c.with_modules.new.files) (g.F.Files.steady c.with_modules.new.files) (g.F.Files.faults c.with_modules.new.files) in
    topology_stops (shard_shown c.args.words.now) c.from_residual.result (files_states a b) c.in_err-found.field-0.0 c.from_residual.ensures.1 c.in_err-found.ensures.ran

pub returns-in_err-sharded : goal.returns-in_err-sharded
returns-in_err-sharded g c =
    let a = source (g.F.Files.held c.args.files.now) (g.F.Files.steady c.args.files.now) (g.F.Files.faults c.args.files.now) in
    let b = source (g.F.Files.held c.with_modules.new.files) (g.F.Files.steady c.with_modules.new.files) (g.F.Files.faults c.with_modules.new.files) in
    copies_stop (shard_shown c.args.words.now) c.from_residual-in_err-sharded.result a b (found_shown c.in_ok-found.found) c.in_err-sharded.field-0.0 c.from_residual-in_err-sharded.ensures.1 c.in_ok-found.ensures.ran c.in_err-sharded.ensures.gives

pub returns-in_err-written : goal.returns-in_err-written
returns-in_err-written g c =
    let a = source (g.F.Files.held c.args.files.now) (g.F.Files.steady c.args.files.now) (g.F.Files.faults c.args.files.now) in
    let b = source (g.F.Files.held c.with_modules.new.files) (g.F.Files.steady c.with_modules.new.files) (g.F.Files.faults c.with_modules.new.files) in
    lost_replied HasShards (files_states a b) (shards.shards (shard_shown c.args.words.now)) c.from_residual-in_err-written.result c.from_residual-in_err-written.ensures.1

pub returns : goal.returns
returns g c =
    let a = source (g.F.Files.held c.args.files.now) (g.F.Files.steady c.args.files.now) (g.F.Files.faults c.args.files.now) in
    let b = source (g.F.Files.held c.with_modules.new.files) (g.F.Files.steady c.with_modules.new.files) (g.F.Files.faults c.with_modules.new.files) in
    record {
      given = c.in_ok-sharded.sharded;
      came = copies_come (shard_shown c.args.words.now) a b (found_shown c.in_ok-found.found) c.in_ok-sharded.sharded c.in_ok-found.ensures.ran c.in_ok-sharded.ensures.gives;
      says = c.in_ok-written.ensures;
    }
