use Rattle.command_checks.specs.Ends.{files_states, source}
use Rattle.command_checks.specs.Checks as check
use Rattle.blazes_commands.specs.Labels.Answers.{HasPlan}
use Rattle.blazes_commands.proofs.Labels.RepliesLemmas.{lost_replied, stop_replied}
use Rattle.blazes_commands.proofs.label_calls.planning.plan.Goals as goal

pub returns-in_err-valid : goal.returns-in_err-valid
returns-in_err-valid g c =
    let a = source (g.F.Files.held c.args.files.now) (g.F.Files.steady c.args.files.now) (g.F.Files.faults c.args.files.now) in
    let b = source (g.F.Files.held c.valid_topology.new.files) (g.F.Files.steady c.valid_topology.new.files) (g.F.Files.faults c.valid_topology.new.files) in
    stop_replied HasPlan (files_states a b) (check.valid_topology c.args.name.now) c.from_residual.result c.in_err-valid.field-0.0 c.from_residual.ensures.1 c.in_err-valid.ensures

pub returns-in_err-planned : goal.returns-in_err-planned
returns-in_err-planned g c =
    let a = source (g.F.Files.held c.args.files.now) (g.F.Files.steady c.args.files.now) (g.F.Files.faults c.args.files.now) in
    let b = source (g.F.Files.held c.valid_topology.new.files) (g.F.Files.steady c.valid_topology.new.files) (g.F.Files.faults c.valid_topology.new.files) in
    lost_replied HasPlan (files_states a b) (check.valid_topology c.args.name.now) c.from_residual-in_err-planned.result c.from_residual-in_err-planned.ensures.1

pub returns : goal.returns
returns g c = record { given = c.in_ok-valid.valid; came = c.in_ok-valid.ensures; says = c.in_ok-planned.ensures }
