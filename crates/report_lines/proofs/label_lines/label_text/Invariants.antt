-- the lines of the streams so far
use Rattle.std.proofs.Common.{◌≡◌}
use Rattle.std.specs.List.{flat_map}
use Rattle.blz_value.specs.NumberSets.{below}
use Rattle.report_lines.specs.LabelText.{label_line}
use Rattle.report_lines.proofs.label_lines.label_text.Given as goal

abbrev pub invariant-loop-stream : goal.invariant-loop-stream
invariant-loop-stream l = l.text.items ≡ flat_map (label_line l.valid.view l.labels) (below l.stream)
