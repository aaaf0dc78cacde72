-- the lines of the outputs so far
use Rattle.std.proofs.Common.{◌≡◌, ◌++◌}
use Rattle.std.specs.List.{flat_map}
use Rattle.blz_value.specs.NumberSets.{below}
use Rattle.topo_forms.specs.View.{note_at}
use Rattle.report_lines.specs.DeriveText.{path_line}
use Rattle.report_lines.proofs.component.push_port_lines.Given as goal

abbrev pub invariant-loop-output : goal.invariant-loop-output
invariant-loop-output l = l.text.items ≡ l.initial.text.items ++ flat_map (λ o. path_line l.report.valid.now.view l.component l.port o (note_at l.report.valid.now.view l.component l.port o)) (below l.output)
