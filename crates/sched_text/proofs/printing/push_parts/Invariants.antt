-- the parts so far
use Rattle.std.proofs.Common.{◌≡◌, ◌++◌, take}
use Rattle.std.specs.List.{All, flat_map}
use Rattle.sched_text.specs.Text.{part_text}
use Rattle.sched_text.specs.Small.{IsSmallPart}
use Rattle.sched_text.proofs.printing.push_parts.Given as goal

abbrev pub invariant-loop-part : goal.invariant-loop-part
invariant-loop-part l = (l.into.items ≡ l.fn.into.items ++ flat_map part_text (take l.part-index l.parts)) × All IsSmallPart (take l.part-index l.parts)
