-- the lines of the sources so far
use Rattle.std.proofs.Common.{◌≡◌, ◌++◌}
use Rattle.std.specs.List.{flat_map}
use Rattle.blz_value.specs.NumberSets.{below}
use Rattle.report_lines.specs.DeriveText.{source_line}
use Rattle.report_lines.proofs.derivation.push_sources.Given as goal

abbrev pub invariant-loop-stream : goal.invariant-loop-stream
invariant-loop-stream l = l.text.items ≡ l.initial.text.items ++ flat_map (source_line l.report.valid.now.view l.report.labels.now) (below l.stream)
