-- the uses of the inputs so far
use Rattle.std.proofs.Common.{◌≡◌, ◌++◌, take}
use Rattle.std.specs.List.{flat_map}
use Rattle.report_lines.specs.Code.Uses.{use_line}
use Rattle.report_lines.proofs.uses.push_inputs.Given as goal

abbrev pub invariant-loop-stream : goal.invariant-loop-stream
invariant-loop-stream l = l.text.items ≡ l.initial.text.items ++ flat_map (use_line l.report l.reading) (take l.stream-index l.inputs)
