-- the rows so far, and those at the rest of the keys
use Rattle.std.proofs.Common.{◌≡◌, ◌++◌}
use Rattle.std.specs.List.{flat_map}
use Rattle.bloom_growth.specs.Code.NotIns.{free_at}
use Rattle.bloom_growth.proofs.turn_notins.push_free.Given as goal

abbrev pub invariant-loop-key : goal.invariant-loop-key
invariant-loop-key g l = l.rows.items ++ flat_map (free_at l.lefts.sets (g.R.RowsByKey.kept l.side).sets) l.key-iterator ≡ l.initial.rows.items ++ flat_map (free_at l.lefts.sets (g.R.RowsByKey.kept l.side).sets) l.keys
