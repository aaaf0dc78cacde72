-- the copies so far
use Rattle.std.proofs.Common.{◌≡◌, take}
use Rattle.why_trace.proofs.copies.copies_of_lines.Given as goal

abbrev pub invariant-loop-number : goal.invariant-loop-number
invariant-loop-number l = l.copies.items ≡ take l.number-index l.lines
