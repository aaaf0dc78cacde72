-- A schedule stops the command, or both are run.
use Rattle.std.proofs.Common.{List, map, subst}
use Rattle.std.proofs.lemmas.List.Sorted.{IsPermutation-refl}
use Rattle.sched_net.specs.ScheduleLines.{Line}
use Rattle.blazes_words.specs.Requests.{witness_shown}
use Rattle.command_checks.specs.Ends.{files_states, source}
use Rattle.command_checks.specs.Script.{◌>>=◌}
use Rattle.blazes_commands.specs.Runs.Bench.{bench_states}
use Rattle.blazes_commands.specs.Runs.Replies.{RepliesAtOnce}
use Rattle.blazes_commands.proofs.Runs.RepliesLemmas.{kept_anyway, stop_replies, then_replies}
use Rattle.blazes_commands.specs.Finds.Checks as check
use Rattle.blazes_commands.specs.Finds.Finds.{SaysWitness, comparing}
use Rattle.blazes_commands.proofs.find_calls.witnessing.witness_files.Goals as goal

pub returns-in_err-first : goal.returns-in_err-first
returns-in_err-first g c =
    let names = witness_shown c.args.names in
    let bench = bench_states (map (λ b. (goal.Component-dyn g (b.vtable, b.value)).kind b.value) c.args.bench.now.items) (map (λ b. (goal.Component-dyn g (b.vtable, b.value)).kind b.value) c.args.bench.now.items) (map (λ b. (goal.Component-dyn g (b.vtable, b.value)).program b.value) c.args.bench.now.items) (map (λ b. (goal.Component-dyn g (b.vtable, b.value)).kept b.value) c.args.bench.now.items) in
    let a = source (g.F.Files.held c.args.files.now) (g.F.Files.steady c.args.files.now) (g.F.Files.faults c.args.files.now) in
    let b = source (g.F.Files.held c.schedule_file.new.files) (g.F.Files.steady c.schedule_file.new.files) (g.F.Files.faults c.schedule_file.new.files) in
    record {
      replies = stop_replies SaysWitness (files_states a b) bench (check.schedule_file names.first) (λ first. check.second_file names.second >>= comparing bench.kinds c.args.valid.now.view c.args.given first) c.from_residual.result c.in_err-first.field-0.0 c.from_residual.ensures.1 c.in_err-first.ensures;
      kinds = kept_anyway bench c.from_residual.result (IsPermutation-refl bench.kinds);
    }

pub returns-in_err-second : goal.returns-in_err-second
returns-in_err-second g c =
    let names = witness_shown c.args.names in
    let bench = bench_states (map (λ b. (goal.Component-dyn g (b.vtable, b.value)).kind b.value) c.args.bench.now.items) (map (λ b. (goal.Component-dyn g (b.vtable, b.value)).kind b.value) c.args.bench.now.items) (map (λ b. (goal.Component-dyn g (b.vtable, b.value)).program b.value) c.args.bench.now.items) (map (λ b. (goal.Component-dyn g (b.vtable, b.value)).kept b.value) c.args.bench.now.items) in
    let a = source (g.F.Files.held c.args.files.now) (g.F.Files.steady c.args.files.now) (g.F.Files.faults c.args.files.now) in
    let b = source (g.F.Files.held c.schedule_file.new.files) (g.F.Files.steady c.schedule_file.new.files) (g.F.Files.faults c.schedule_file.new.files) in
    let d = source (g.F.Files.held c.second_file.new.files) (g.F.Files.steady c.second_file.new.files) (g.F.Files.faults c.second_file.new.files) in
    let first = c.in_ok-first.first in
    record {
      replies = then_replies SaysWitness a b d bench (check.schedule_file names.first) (λ first. check.second_file names.second >>= comparing bench.kinds c.args.valid.now.view c.args.given first) first c.from_residual-in_err-second.result c.in_ok-first.ensures
          (stop_replies SaysWitness (files_states b d) bench (check.second_file names.second) (comparing bench.kinds c.args.valid.now.view c.args.given first) c.from_residual-in_err-second.result c.in_err-second.field-0.0 c.from_residual-in_err-second.ensures.1 c.in_err-second.ensures);
      kinds = kept_anyway bench c.from_residual-in_err-second.result (IsPermutation-refl bench.kinds);
    }

pub returns : goal.returns
returns g c =
    let names = witness_shown c.args.names in
    let v = c.args.valid.now.view in
    let bench = bench_states (map (λ b. (goal.Component-dyn g (b.vtable, b.value)).kind b.value) c.args.bench.now.items) (map (λ b. (goal.Component-dyn g (b.vtable, b.value)).kind b.value) c.compared.new.bench.items) (map (λ b. (goal.Component-dyn g (b.vtable, b.value)).program b.value) c.compared.new.bench.items) (map (λ b. (goal.Component-dyn g (b.vtable, b.value)).kept b.value) c.compared.new.bench.items) in
    let a = source (g.F.Files.held c.args.files.now) (g.F.Files.steady c.args.files.now) (g.F.Files.faults c.args.files.now) in
    let b = source (g.F.Files.held c.schedule_file.new.files) (g.F.Files.steady c.schedule_file.new.files) (g.F.Files.faults c.schedule_file.new.files) in
    let d = source (g.F.Files.held c.second_file.new.files) (g.F.Files.steady c.second_file.new.files) (g.F.Files.faults c.second_file.new.files) in
    let first = c.in_ok-first.first in
    let second = c.in_ok-second.second in
    let result = c.compared.result in
    record {
      replies = then_replies SaysWitness a b d bench (check.schedule_file names.first) (λ first. check.second_file names.second >>= comparing bench.kinds v c.args.given first) first result c.in_ok-first.ensures
          (then_replies SaysWitness b d d bench (check.second_file names.second) (comparing bench.kinds v c.args.given first) second result c.in_ok-second.ensures
          (subst (λ (lines : List Line). RepliesAtOnce SaysWitness bench result (comparing bench.kinds v c.args.given lines second)) c.lines.ensures
          (subst (λ (lines : List Line). RepliesAtOnce SaysWitness bench result (comparing bench.kinds v c.args.given c.lines.result.now lines)) c.lines-2.ensures c.compared.ensures.replies) d));
      kinds = c.compared.ensures.kinds;
    }
