use Rattle.std.proofs.Common.{◌≡◌, ◌++◌, map, length, drop}
use Rattle.std.specs.List.{enumerate_from}
use Rattle.blz_value.specs.Regions.{region_by}
use Rattle.blz_value.proofs.regions.all_regions.Given as goal

abbrev pub invariant-loop-component : goal.invariant-loop-component
invariant-loop-component l = l.sets.items ++ map (λ place. region_by l.ups (length l.ups) place.0) (enumerate_from l.component (drop l.component l.ups)) ≡ map (λ place. region_by l.ups (length l.ups) place.0) (enumerate_from 0 l.ups)
