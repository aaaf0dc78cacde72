use Rattle.command_checks.specs.Ends.{files_states, source}
use Rattle.command_checks.specs.Checks as check
use Rattle.report_lines.specs.DeriveText.{derive_text}
use Rattle.blazes_commands.specs.Labels.Answers.{HasLabels}
use Rattle.blazes_commands.proofs.Labels.RepliesLemmas.{lost_replied, stop_replied}
use Rattle.blazes_commands.proofs.label_calls.labelling.derive.Goals as goal

pub returns-in_err-valid : goal.returns-in_err-valid
returns-in_err-valid g c =
    let a = source (g.F.Files.held c.args.files.now) (g.F.Files.steady c.args.files.now) (g.F.Files.faults c.args.files.now) in
    let b = source (g.F.Files.held c.valid_topology.new.files) (g.F.Files.steady c.valid_topology.new.files) (g.F.Files.faults c.valid_topology.new.files) in
    stop_replied (λ seen. HasLabels derive_text seen.view) (files_states a b) (check.valid_topology c.args.name.now) c.from_residual.result c.in_err-valid.field-0.0 c.from_residual.ensures.1 c.in_err-valid.ensures

pub returns-in_err-derived : goal.returns-in_err-derived
returns-in_err-derived g c =
    let a = source (g.F.Files.held c.args.files.now) (g.F.Files.steady c.args.files.now) (g.F.Files.faults c.args.files.now) in
    let b = source (g.F.Files.held c.valid_topology.new.files) (g.F.Files.steady c.valid_topology.new.files) (g.F.Files.faults c.valid_topology.new.files) in
    lost_replied (λ seen. HasLabels derive_text seen.view) (files_states a b) (check.valid_topology c.args.name.now) c.from_residual-in_err-derived.result c.from_residual-in_err-derived.ensures.1

pub returns : goal.returns
returns g c = record { given = c.in_ok-valid.valid; came = c.in_ok-valid.ensures; says = c.in_ok-derived.ensures }
