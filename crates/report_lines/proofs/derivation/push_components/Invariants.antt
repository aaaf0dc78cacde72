-- the lines of the components so far
use Rattle.std.proofs.Common.{◌≡◌, ◌++◌}
use Rattle.std.specs.List.{flat_map}
use Rattle.blz_value.specs.NumberSets.{below}
use Rattle.report_lines.specs.DeriveText.{component_lines}
use Rattle.report_lines.proofs.derivation.push_components.Given as goal

abbrev pub invariant-loop-component : goal.invariant-loop-component
invariant-loop-component l = l.text.items ≡ l.initial.text.items ++ flat_map (component_lines l.report.valid.now.view l.report.labels.now) (below l.component)
