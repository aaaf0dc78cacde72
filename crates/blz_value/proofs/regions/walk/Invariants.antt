use Rattle.std.proofs.Common.{◌≡◌, ◌-◌, ◌++◌}
use Rattle.blz_value.specs.Regions.{regions_by}
use Rattle.blz_value.proofs.regions.walk.Given as goal

abbrev pub invariant-loop-turn : goal.invariant-loop-turn
invariant-loop-turn l = l.regions.items ++ regions_by l.feeding l.sets l.count (l.count - l._turn) l.done ≡ regions_by l.feeding l.sets l.count l.count 0
