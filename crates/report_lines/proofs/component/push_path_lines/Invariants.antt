-- the lines of the ports so far
use Rattle.std.proofs.Common.{◌≡◌, ◌++◌}
use Rattle.std.specs.List.{flat_map}
use Rattle.blz_value.specs.NumberSets.{below}
use Rattle.topo_forms.specs.View.{note_at, output_numbers}
use Rattle.report_lines.specs.DeriveText.{path_line}
use Rattle.report_lines.proofs.component.push_path_lines.Given as goal

abbrev pub invariant-loop-port : goal.invariant-loop-port
invariant-loop-port l = l.text.items ≡ l.initial.text.items ++ flat_map (λ p. flat_map (λ o. path_line l.report.valid.now.view l.component p o (note_at l.report.valid.now.view l.component p o)) (output_numbers l.report.valid.now.view l.component)) (below l.port)
