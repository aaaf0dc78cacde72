-- the lines of the outputs so far
use Rattle.std.proofs.Common.{◌≡◌, ◌++◌}
use Rattle.std.specs.List.{flat_map}
use Rattle.blz_value.specs.NumberSets.{below}
use Rattle.topo_forms.specs.View.{stream_of}
use Rattle.report_lines.specs.DeriveText.{inside_lines}
use Rattle.report_lines.proofs.component.push_inside_outputs.Given as goal

abbrev pub invariant-loop-output : goal.invariant-loop-output
invariant-loop-output l = l.text.items ≡ l.initial.text.items ++ flat_map (λ o. inside_lines l.report.valid.now.view l.report.labels.now l.component o (stream_of l.report.valid.now.view l.component o)) (below l.output)
