use Rattle.std.proofs.Common.{◌≡◌, ◌++◌, map, drop}
use Rattle.std.specs.List.{enumerate_from}
use Rattle.blz_value.specs.Carried.{carried_by}
use Rattle.blz_value.proofs.carried.all_carried.Given as goal

abbrev pub invariant-loop-stream : goal.invariant-loop-stream
invariant-loop-stream l = l.keys.items ++ map (carried_by l.paths) (enumerate_from l.stream (drop l.stream l.paths)) ≡ map (carried_by l.paths) (enumerate_from 0 l.paths)
