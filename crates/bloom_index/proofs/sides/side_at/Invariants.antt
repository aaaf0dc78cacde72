-- the sides of the plans so far were passed
use Rattle.std.proofs.Common.{◌≡◌, ◌+◌, length, take}
use Rattle.bloom_index.specs.Code.SideParts.{plans_sides, HasSide}
use Rattle.bloom_index.proofs.sides.side_at.Given as goal

abbrev pub invariant-loop-plan : goal.invariant-loop-plan
invariant-loop-plan l = (has : HasSide l.plans l.number) → l.left + length (plans_sides has.growing (take l.plan-index l.plans)) ≡ l.number
