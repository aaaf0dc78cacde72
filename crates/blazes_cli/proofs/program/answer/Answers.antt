use Rattle.std.proofs.Common.{map}
use Rattle.blazes_commands.specs.Runs.Bench.{bench_states}
use Rattle.blazes_words.specs.Requests.{asked_by}
use Rattle.blazes_commands.specs.Commands.{script}
use Rattle.command_checks.specs.Ends.{files_states, source}
use Rattle.blazes_commands.proofs.CommandLemmas.{outcome_concluded, kinds_concluded}
use Rattle.blazes_cli.proofs.program.answer.Goals as goal

pub returns : goal.returns
returns g c =
    let bench = bench_states (map (λ b. (goal.Component-dyn g (b.vtable, b.value)).kind b.value) c.args.bench.now.items) (map (λ b. (goal.Component-dyn g (b.vtable, b.value)).kind b.value) c.outcome_of-outcome.new.bench.items) (map (λ b. (goal.Component-dyn g (b.vtable, b.value)).program b.value) c.outcome_of-outcome.new.bench.items) (map (λ b. (goal.Component-dyn g (b.vtable, b.value)).kept b.value) c.outcome_of-outcome.new.bench.items) in
    let a = source (g.F.Files.held c.args.files.now) (g.F.Files.steady c.args.files.now) (g.F.Files.faults c.args.files.now) in
    let b = source (g.F.Files.held c.outcome_of-outcome.new.files) (g.F.Files.steady c.outcome_of-outcome.new.files) (g.F.Files.faults c.outcome_of-outcome.new.files) in
    record {
      answered = outcome_concluded (files_states a b) bench c.outcome_of-outcome.result (script bench.kinds (asked_by c.args.request)) c.conclusion.result c.outcome_of-outcome.ensures.replies c.conclusion.ensures;
      kinds = kinds_concluded bench c.outcome_of-outcome.result c.conclusion.result c.outcome_of-outcome.ensures.kinds c.conclusion.ensures;
    }
