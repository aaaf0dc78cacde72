use Rattle.std.proofs.Common.{ap, map, ◌∙◌}
use Rattle.topo_forms.specs.Valid.{Validated}
use Rattle.inbox.specs.Executions.{first_execution}
use Rattle.sched_net.specs.Steps.{after_lines}
use Rattle.sched_net.proofs.FirstLemmas.{new_runs, runs_after}
use Rattle.command_checks.specs.Script.{Script, ◌>>=◌}
use Rattle.blazes_commands.specs.Runs.Bench.{bench_states}
use Rattle.blazes_commands.specs.Runs.Checks as check
use Rattle.blazes_commands.specs.Runs.Runs.{SaysRun, run_work}
use Rattle.blazes_commands.proofs.Runs.OpeningLemmas.{opening_stops}
use Rattle.blazes_commands.proofs.Runs.RepliesLemmas.{kept_anyway}
use Rattle.blazes_commands.proofs.Runs.RunLemmas.{bench_keeps, bench_replies, lines_applied}
use Rattle.blazes_commands.proofs.run_calls.running.run_lines.Goals as goal

pub run-applied-requires : goal.run-applied-requires
run-applied-requires g c =
    let net = c.in_ok-net.net in
    record {
      runs = new_runs c.args.valid.now.view net.valid.now.view c.args.given (map (λ b. (goal.Component-dyn g (b.vtable, b.value)).program b.value) net.shells.items) (map (λ b. (goal.Component-dyn g (b.vtable, b.value)).kept b.value) net.shells.items) net.books
          (ap (λ (t : Validated). t.view) c.in_ok-net.ensures.valid) c.in_ok-net.ensures.stands;
    }

pub outcome_of-outcome-requires : goal.outcome_of-outcome-requires
outcome_of-outcome-requires g c =
    let net = c.in_ok-net.net in
    let after = c.run-applied.new.net in
    let same = ap (λ (t : Validated). t.view) c.in_ok-net.ensures.valid in
    record {
      same = ap (λ valid. valid.now.view) c.run-applied.ensures.valid ∙ same;
      runs = runs_after g.S.AsStep.step c.args.valid.now.view net.valid.now.view c.args.given c.args.lines.now (map (λ b. (goal.Component-dyn g (b.vtable, b.value)).program b.value) net.shells.items) (map (λ b. (goal.Component-dyn g (b.vtable, b.value)).kept b.value) net.shells.items) (map (λ b. (goal.Component-dyn g (b.vtable, b.value)).kept b.value) after.shells.items)
          net.books after.books c.run-applied.result same c.in_ok-net.ensures.stands c.run-applied.ensures.applies;
    }

pub returns-in_err-net : goal.returns-in_err-net
returns-in_err-net g c =
    let v = c.args.valid.now.view in
    let bench = bench_states (map (λ b. (goal.Component-dyn g (b.vtable, b.value)).kind b.value) c.args.bench.now.items) (map (λ b. (goal.Component-dyn g (b.vtable, b.value)).kind b.value) c.opened.new.bench.items) (map (λ b. (goal.Component-dyn g (b.vtable, b.value)).program b.value) c.opened.new.bench.items) (map (λ b. (goal.Component-dyn g (b.vtable, b.value)).kept b.value) c.opened.new.bench.items) in
    record {
      replies = λ s. opening_stops SaysRun v bench (check.checked (check.executed (after_lines g.S.AsStep.step c.args.valid.now.view c.args.given c.args.lines.now first_execution)) >>= λ x. Script.gives (run_work v c.args.given x)) c.from_residual.result s c.in_err-net.field-0.0
          c.from_residual.ensures.1 c.in_err-net.ensures.gives;
      kinds = kept_anyway bench c.from_residual.result c.in_err-net.ensures.unopened;
    }

pub returns : goal.returns
returns g c =
    let net = c.in_ok-net.net in
    let after = c.run-applied.new.net in
    let all = c.close.new.bench.items in
    let put = c.in_ok-close.ensures.ok in
    let same = ap (λ (t : Validated). t.view) c.in_ok-net.ensures.valid in
    let bench = bench_states (map (λ b. (goal.Component-dyn g (b.vtable, b.value)).kind b.value) c.args.bench.now.items) (map (λ b. (goal.Component-dyn g (b.vtable, b.value)).kind b.value) all) (map (λ b. (goal.Component-dyn g (b.vtable, b.value)).program b.value) all) (map (λ b. (goal.Component-dyn g (b.vtable, b.value)).kept b.value) all) in
    record {
      replies = bench_replies c.args.valid.now.view c.args.given (check.executed (after_lines g.S.AsStep.step c.args.valid.now.view c.args.given c.args.lines.now first_execution)) (λ b. (goal.Component-dyn g (b.vtable, b.value)).kind b.value) (λ b. (goal.Component-dyn g (b.vtable, b.value)).program b.value) (λ b. (goal.Component-dyn g (b.vtable, b.value)).kept b.value) c.args.bench.now.items c.opened.new.bench.items net.shells.items after.shells.items all put
          after.books c.run-applied.result c.outcome_of-outcome.result c.in_ok-net.ensures.gives c.run-applied.ensures.loaded
          (lines_applied g.S.AsStep.step c.args.valid.now.view net.valid.now.view c.args.given c.args.lines.now (map (λ b. (goal.Component-dyn g (b.vtable, b.value)).program b.value) net.shells.items) (map (λ b. (goal.Component-dyn g (b.vtable, b.value)).kept b.value) net.shells.items) (map (λ b. (goal.Component-dyn g (b.vtable, b.value)).kept b.value) after.shells.items)
          net.books after.books c.run-applied.result same c.in_ok-net.ensures.stands c.run-applied.ensures.applies)
          c.outcome_of-outcome.ensures;
      kinds = kept_anyway bench c.outcome_of-outcome.result
          (bench_keeps c.args.valid.now.view c.args.given (check.executed (after_lines g.S.AsStep.step c.args.valid.now.view c.args.given c.args.lines.now first_execution)) (λ b. (goal.Component-dyn g (b.vtable, b.value)).kind b.value) (λ b. (goal.Component-dyn g (b.vtable, b.value)).program b.value) (λ b. (goal.Component-dyn g (b.vtable, b.value)).kept b.value) c.args.bench.now.items c.opened.new.bench.items net.shells.items after.shells.items all put c.in_ok-net.ensures.kinds c.run-applied.ensures.kinds);
    }
