use Rattle.std.proofs.Common.{◌∙◌, List, ap, length, subst}
use Rattle.std.specs.List.{filter_map}
use Rattle.topo_forms.specs.declared.topology.ComponentEntry.{ComponentEntry}
use Rattle.topo_forms.specs.Valid.{needs_module}
use Rattle.command_checks.specs.Checks as check
use Rattle.command_checks.specs.Code.Topologies.{from_modules, from_topology}
use Rattle.command_checks.specs.Found.{found_shown}
use Rattle.command_checks.specs.Ran.{Stopped}
use Rattle.command_checks.specs.Ends.{files_states, source, Came}
use Rattle.command_checks.specs.Script.Ending.{gave}
use Rattle.command_checks.proofs.EachLemmas.{each_length}
use Rattle.command_checks.proofs.ScriptLemmas.{stop_handed, stop_then, then_ran}
use Rattle.command_checks.proofs.topologies.modules_found.Goals as goal

pub found_with-requires-clause-each : goal.found_with-requires-clause-each
found_with-requires-clause-each g c =
    let b = source (g.F.Files.held c.args.files.now) (g.F.Files.steady c.args.files.now) (g.F.Files.faults c.args.files.now) in
    each_length b.told check.module_file (filter_map needs_module c.as_slice.result.now) c.in_ok-modules.modules.items c.in_ok-modules.ensures.ends
    ∙ ap (λ (components : List ComponentEntry). length (filter_map needs_module components)) c.as_slice.ensures

pub returns-in_err-modules-clause-ran : goal.returns-in_err-modules-clause-ran
returns-in_err-modules-clause-ran g c =
    let t = c.args.topology.now in
    let stop = c.in_err-modules.field-0.0 in
    let b = source (g.F.Files.held c.args.files.now) (g.F.Files.steady c.args.files.now) (g.F.Files.faults c.args.files.now) in
    let d = source (g.F.Files.held c.module_files.new.files) (g.F.Files.steady c.module_files.new.files) (g.F.Files.faults c.module_files.new.files) in
    let stopped = subst (λ (components : List ComponentEntry). Stopped (files_states b d) stop (check.each check.module_file (filter_map needs_module components)))
    c.as_slice.ensures c.in_err-modules.ensures in
    stop_handed found_shown (files_states b d) (from_topology t) c.from_residual.result stop c.from_residual.ensures.1
    (stop_then (files_states b d) stop (check.each check.module_file (check.module_names t)) (from_modules t) stopped)

pub returns : goal.returns
returns g c =
    let t = c.args.topology.now in
    let modules = c.in_ok-modules.modules.items in
    let b = source (g.F.Files.held c.args.files.now) (g.F.Files.steady c.args.files.now) (g.F.Files.faults c.args.files.now) in
    let d = source (g.F.Files.held c.module_files.new.files) (g.F.Files.steady c.module_files.new.files) (g.F.Files.faults c.module_files.new.files) in
    let all = subst (λ (components : List ComponentEntry). Came (files_states b d) (check.each check.module_file (filter_map needs_module components)) (gave modules))
    c.as_slice.ensures c.in_ok-modules.ensures in
    record {
      ran = then_ran found_shown b d d (check.each check.module_file (check.module_names t)) (from_modules t) modules c.found_with.result all (c.found_with.ensures.ran d);
      modules = c.found_with.ensures.modules;
    }
