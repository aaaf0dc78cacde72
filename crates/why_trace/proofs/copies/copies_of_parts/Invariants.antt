-- the copies so far
use Rattle.std.proofs.Common.{◌≡◌, take}
use Rattle.why_trace.proofs.copies.copies_of_parts.Given as goal

abbrev pub invariant-loop-part : goal.invariant-loop-part
invariant-loop-part l = l.copies.items ≡ take l.part-index l.parts
