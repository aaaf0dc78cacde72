-- the key values of the records so far
use Rattle.std.proofs.Common.{◌≡◌, map, take}
use Rattle.blz_value.specs.Operators.{cells}
use Rattle.blz_value.specs.Sets.{set_of}
use Rattle.inbox.proofs.sources.keys_of.Given as goal

abbrev pub invariant-loop-row : goal.invariant-loop-row
invariant-loop-row l = l.keys.keys ≡ set_of (map (cells l.columns) (take l.row-index l.rows))
