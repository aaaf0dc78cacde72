-- Steps stop the run, or they are made.
use Rattle.std.proofs.Common.{List, map, subst}
use Rattle.std.proofs.lemmas.List.Sorted.{IsPermutation-refl}
use Rattle.sched_net.specs.Steps.{StepLine}
use Rattle.command_checks.specs.Ends.{files_states, source}
use Rattle.blazes_commands.specs.Runs.Bench.{bench_states}
use Rattle.blazes_commands.specs.Runs.Checks as check
use Rattle.blazes_commands.specs.Runs.Replies.{RepliesAtOnce}
use Rattle.blazes_commands.specs.Runs.Runs.{SaysRun, restarting}
use Rattle.blazes_commands.proofs.Runs.RepliesLemmas.{kept_anyway, stop_replies, then_replies}
use Rattle.blazes_commands.proofs.run_calls.restarting.restart_file.Goals as goal

pub returns-in_err-steps : goal.returns-in_err-steps
returns-in_err-steps g c =
    let bench = bench_states (map (λ b. (goal.Component-dyn g (b.vtable, b.value)).kind b.value) c.args.bench.now.items) (map (λ b. (goal.Component-dyn g (b.vtable, b.value)).kind b.value) c.args.bench.now.items) (map (λ b. (goal.Component-dyn g (b.vtable, b.value)).program b.value) c.args.bench.now.items) (map (λ b. (goal.Component-dyn g (b.vtable, b.value)).kept b.value) c.args.bench.now.items) in
    let a = source (g.F.Files.held c.args.files.now) (g.F.Files.steady c.args.files.now) (g.F.Files.faults c.args.files.now) in
    let b = source (g.F.Files.held c.steps_file.new.files) (g.F.Files.steady c.steps_file.new.files) (g.F.Files.faults c.steps_file.new.files) in
    record {
      replies = stop_replies SaysRun (files_states a b) bench (check.steps_file c.args.name.now) (restarting bench.kinds c.args.valid.now.view c.args.given) c.from_residual.result c.in_err-steps.field-0.0 c.from_residual.ensures.1 c.in_err-steps.ensures;
      kinds = kept_anyway bench c.from_residual.result (IsPermutation-refl bench.kinds);
    }

pub returns : goal.returns
returns g c =
    let bench = bench_states (map (λ b. (goal.Component-dyn g (b.vtable, b.value)).kind b.value) c.args.bench.now.items) (map (λ b. (goal.Component-dyn g (b.vtable, b.value)).kind b.value) c.run_lines.new.bench.items) (map (λ b. (goal.Component-dyn g (b.vtable, b.value)).program b.value) c.run_lines.new.bench.items) (map (λ b. (goal.Component-dyn g (b.vtable, b.value)).kept b.value) c.run_lines.new.bench.items) in
    let a = source (g.F.Files.held c.args.files.now) (g.F.Files.steady c.args.files.now) (g.F.Files.faults c.args.files.now) in
    let b = source (g.F.Files.held c.steps_file.new.files) (g.F.Files.steady c.steps_file.new.files) (g.F.Files.faults c.steps_file.new.files) in
    record {
      replies = then_replies SaysRun a b b bench (check.steps_file c.args.name.now) (restarting bench.kinds c.args.valid.now.view c.args.given) c.in_ok-steps.steps.items c.run_lines.result c.in_ok-steps.ensures
          (subst (λ (lines : List StepLine). RepliesAtOnce SaysRun bench c.run_lines.result (restarting bench.kinds c.args.valid.now.view c.args.given lines)) c.deref.ensures.value c.run_lines.ensures.replies b);
      kinds = c.run_lines.ensures.kinds;
    }
