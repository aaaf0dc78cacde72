-- the lines so far
use Rattle.std.proofs.Common.{◌≡◌, ◌++◌, take}
use Rattle.std.specs.List.{flat_map}
use Rattle.blazes_commands.specs.Finds.WhyText.{reason_line}
use Rattle.blazes_commands.proofs.find_calls.why_lines.push_reasons.Given as goal

abbrev pub invariant-loop-number : goal.invariant-loop-number
invariant-loop-number l = l.text.items ≡ l.initial.text.items ++ flat_map reason_line (take l.number-index l.reasons)
