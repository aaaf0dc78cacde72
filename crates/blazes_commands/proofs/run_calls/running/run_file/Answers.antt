-- A schedule stops the run, or its lines are run.
use Rattle.std.proofs.Common.{List, map, subst}
use Rattle.std.proofs.lemmas.List.Sorted.{IsPermutation-refl}
use Rattle.sched_net.specs.ScheduleLines.{Line}
use Rattle.command_checks.specs.Ends.{files_states, source}
use Rattle.blazes_commands.specs.Runs.Bench.{bench_states}
use Rattle.blazes_commands.specs.Runs.Checks as check
use Rattle.blazes_commands.specs.Runs.Replies.{RepliesAtOnce}
use Rattle.blazes_commands.specs.Runs.Runs.{SaysRun, running}
use Rattle.blazes_commands.proofs.Runs.RepliesLemmas.{kept_anyway, stop_replies, then_replies}
use Rattle.blazes_commands.proofs.run_calls.running.run_file.Goals as goal

pub returns-in_err-schedule : goal.returns-in_err-schedule
returns-in_err-schedule g c =
    let bench = bench_states (map (λ b. (goal.Component-dyn g (b.vtable, b.value)).kind b.value) c.args.bench.now.items) (map (λ b. (goal.Component-dyn g (b.vtable, b.value)).kind b.value) c.args.bench.now.items) (map (λ b. (goal.Component-dyn g (b.vtable, b.value)).program b.value) c.args.bench.now.items) (map (λ b. (goal.Component-dyn g (b.vtable, b.value)).kept b.value) c.args.bench.now.items) in
    let a = source (g.F.Files.held c.args.files.now) (g.F.Files.steady c.args.files.now) (g.F.Files.faults c.args.files.now) in
    let b = source (g.F.Files.held c.schedule_file.new.files) (g.F.Files.steady c.schedule_file.new.files) (g.F.Files.faults c.schedule_file.new.files) in
    record {
      replies = stop_replies SaysRun (files_states a b) bench (check.schedule_file c.args.name.now) (running bench.kinds c.args.valid.now.view c.args.given) c.from_residual.result c.in_err-schedule.field-0.0 c.from_residual.ensures.1 c.in_err-schedule.ensures;
      kinds = kept_anyway bench c.from_residual.result (IsPermutation-refl bench.kinds);
    }

pub returns : goal.returns
returns g c =
    let bench = bench_states (map (λ b. (goal.Component-dyn g (b.vtable, b.value)).kind b.value) c.args.bench.now.items) (map (λ b. (goal.Component-dyn g (b.vtable, b.value)).kind b.value) c.run_lines.new.bench.items) (map (λ b. (goal.Component-dyn g (b.vtable, b.value)).program b.value) c.run_lines.new.bench.items) (map (λ b. (goal.Component-dyn g (b.vtable, b.value)).kept b.value) c.run_lines.new.bench.items) in
    let a = source (g.F.Files.held c.args.files.now) (g.F.Files.steady c.args.files.now) (g.F.Files.faults c.args.files.now) in
    let b = source (g.F.Files.held c.schedule_file.new.files) (g.F.Files.steady c.schedule_file.new.files) (g.F.Files.faults c.schedule_file.new.files) in
    record {
      replies = then_replies SaysRun a b b bench (check.schedule_file c.args.name.now) (running bench.kinds c.args.valid.now.view c.args.given) c.in_ok-schedule.schedule c.run_lines.result c.in_ok-schedule.ensures
          (subst (λ (lines : List Line). RepliesAtOnce SaysRun bench c.run_lines.result (running bench.kinds c.args.valid.now.view c.args.given lines)) c.lines.ensures c.run_lines.ensures.replies b);
      kinds = c.run_lines.ensures.kinds;
    }
