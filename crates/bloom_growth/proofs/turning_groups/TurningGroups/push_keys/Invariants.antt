-- the keys of the rows so far
use Rattle.std.proofs.Common.{◌≡◌, ◌++◌, take}
use Rattle.blz_value.specs.Operators.{project_rows}
use Rattle.bloom_growth.proofs.turning_groups.TurningGroups.push_keys.Given as goal

abbrev pub invariant-loop-row : goal.invariant-loop-row
invariant-loop-row l = l.keys.items ≡ l.fn.keys.items ++ project_rows l.self.keys.items (take l.row-index l.row-items)
