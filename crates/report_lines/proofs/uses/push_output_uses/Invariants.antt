-- the uses of the ports so far
use Rattle.std.proofs.Common.{◌≡◌, ◌++◌}
use Rattle.std.specs.List.{flat_map}
use Rattle.blz_value.specs.NumberSets.{below}
use Rattle.topo_forms.specs.View.{note_at}
use Rattle.report_lines.specs.DeriveText.{port_uses}
use Rattle.report_lines.proofs.uses.push_output_uses.Given as goal

abbrev pub invariant-loop-port : goal.invariant-loop-port
invariant-loop-port l = l.text.items ≡ l.initial.text.items ++ flat_map (λ p. port_uses l.report.valid.now.view l.report.labels.now l.component p (note_at l.report.valid.now.view l.component p l.output)) (below l.port)
