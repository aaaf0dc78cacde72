use Rattle.std.proofs.Common.{take}
use Rattle.std.specs.List.{filter_map}
use Rattle.topo_forms.specs.Valid.{needs_module}
use Rattle.command_checks.specs.Checks as check
use Rattle.command_checks.specs.Ends.{files_states, source, Came}
use Rattle.command_checks.specs.Script.Ending.{gave}
use Rattle.command_checks.proofs.module_file.module_files.Given as goal

abbrev pub invariant-loop-component : goal.invariant-loop-component
invariant-loop-component g l =
    Came (files_states (source (g.F.Files.held l.fn.files) (g.F.Files.steady l.fn.files) (g.F.Files.faults l.fn.files))
    (source (g.F.Files.held l.files) (g.F.Files.steady l.files) (g.F.Files.faults l.files)))
    (check.each check.module_file (filter_map needs_module (take l.component-index l.components))) (gave l.modules.items)
