use Rattle.command_checks.specs.Checks as check
use Rattle.command_checks.specs.Found.{found_shown}
use Rattle.command_checks.specs.Ends.{files_states, source}
use Rattle.command_checks.specs.Script.{Script}
use Rattle.command_checks.specs.Script.Ending.{gave}
use Rattle.command_checks.proofs.ScriptLemmas.{came_at_once, came_then, stop_handed, stop_then}
use Rattle.command_checks.proofs.topologies.valid_topology.Goals as goal

pub returns-in_err-found : goal.returns-in_err-found
returns-in_err-found g c =
    let stop = c.in_err-found.field-0.0 in
    let a = source (g.F.Files.held c.args.files.now) (g.F.Files.steady c.args.files.now) (g.F.Files.faults c.args.files.now) in
    let b = source (g.F.Files.held c.with_modules.new.files) (g.F.Files.steady c.with_modules.new.files) (g.F.Files.faults c.with_modules.new.files) in
    stop_handed (λ valid. valid) (files_states a b) (check.valid_topology c.args.name.now) c.from_residual.result stop c.from_residual.ensures.1
    (stop_then (files_states a b) stop (check.with_modules c.args.name.now) (λ found. Script.gives found.valid) c.in_err-found.ensures.ran)

pub returns : goal.returns
returns g c =
    let found = found_shown c.in_ok-found.found in
    let a = source (g.F.Files.held c.args.files.now) (g.F.Files.steady c.args.files.now) (g.F.Files.faults c.args.files.now) in
    let b = source (g.F.Files.held c.with_modules.new.files) (g.F.Files.steady c.with_modules.new.files) (g.F.Files.faults c.with_modules.new.files) in
    came_then a b b (check.with_modules c.args.name.now) (λ found. Script.gives found.valid) found (gave found.valid) c.in_ok-found.ensures.ran (came_at_once b found.valid)
