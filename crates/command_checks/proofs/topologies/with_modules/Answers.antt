use Rattle.command_checks.specs.Checks as check
use Rattle.command_checks.specs.Code.Topologies.{from_topology}
use Rattle.command_checks.specs.Found.{found_shown}
use Rattle.command_checks.specs.Ends.{files_states, source}
use Rattle.command_checks.proofs.ScriptLemmas.{stop_handed, stop_then, then_ran}
use Rattle.command_checks.proofs.topologies.with_modules.Goals as goal

pub returns-in_err-topology-clause-ran : goal.returns-in_err-topology-clause-ran
returns-in_err-topology-clause-ran g c =
    let stop = c.in_err-topology.field-0.0 in
    let a = source (g.F.Files.held c.args.files.now) (g.F.Files.steady c.args.files.now) (g.F.Files.faults c.args.files.now) in
    let b = source (g.F.Files.held c.topology_file.new.files) (g.F.Files.steady c.topology_file.new.files) (g.F.Files.faults c.topology_file.new.files) in
    stop_handed found_shown (files_states a b) (check.with_modules c.args.name.now) c.from_residual.result stop c.from_residual.ensures.1
    (stop_then (files_states a b) stop (check.topology_file c.args.name.now) from_topology c.in_err-topology.ensures.ran)

pub returns : goal.returns
returns g c =
    let a = source (g.F.Files.held c.args.files.now) (g.F.Files.steady c.args.files.now) (g.F.Files.faults c.args.files.now) in
    let b = source (g.F.Files.held c.topology_file.new.files) (g.F.Files.steady c.topology_file.new.files) (g.F.Files.faults c.topology_file.new.files) in
    let d = source (g.F.Files.held c.modules_found.new.files) (g.F.Files.steady c.modules_found.new.files) (g.F.Files.faults c.modules_found.new.files) in
    record {
      ran = then_ran found_shown a b d (check.topology_file c.args.name.now) from_topology c.in_ok-topology.topology c.modules_found.result c.in_ok-topology.ensures.ran c.modules_found.ensures.ran;
      modules = c.modules_found.ensures.modules;
    }
