-- the keys of the rows so far
use Rattle.std.proofs.Common.{◌≡◌, take}
use Rattle.blz_value.specs.Operators.{project_rows}
use Rattle.blz_value.specs.Sets.{set_of}
use Rattle.bloom_growth.proofs.turn_notins.keys_of.Given as goal

abbrev pub invariant-loop-row : goal.invariant-loop-row
invariant-loop-row l = l.keys ≡ set_of (project_rows l.columns (take l.row-index l.row-items))
