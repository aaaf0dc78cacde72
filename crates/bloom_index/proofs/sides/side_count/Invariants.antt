-- the sides of the rules so far
use Rattle.std.proofs.Common.{◌≡◌, length, take}
use Rattle.bloom_index.specs.Code.SideParts.{rules_sides}
use Rattle.bloom_index.proofs.sides.side_count.Given as goal

abbrev pub invariant-loop-rule : goal.invariant-loop-rule
invariant-loop-rule l = l.count ≡ length (rules_sides l.growing (take l.rule-index l.rules))
