-- the uses of the streams so far
use Rattle.std.proofs.Common.{◌≡◌, ◌++◌, filter}
use Rattle.std.specs.List.{flat_map}
use Rattle.blz_value.specs.NumberSets.{below}
use Rattle.topo_forms.specs.View.{goes_to}
use Rattle.report_lines.specs.Code.Uses.{use_line}
use Rattle.report_lines.proofs.uses.push_port_uses.Given as goal

abbrev pub invariant-loop-stream : goal.invariant-loop-stream
invariant-loop-stream l = l.text.items ≡ l.initial.text.items ++ flat_map (λ s. use_line l.report l.reading (s, (l.component, l.port))) (filter (goes_to l.report.valid.now.view l.component l.port) (below l.stream))
