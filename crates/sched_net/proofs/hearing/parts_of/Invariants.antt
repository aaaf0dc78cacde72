use Rattle.std.proofs.Common.{◌≡◌, take}
use Rattle.sched_net.specs.Numbered.{numbered_parts}
use Rattle.sched_net.proofs.hearing.parts_of.Given as goal

abbrev pub invariant-loop-part : goal.invariant-loop-part
invariant-loop-part l = l.numbers.items ≡ numbered_parts l.valid.view l.component (take l.part-index l.parts)
