-- the missing rows so far
use Rattle.std.proofs.Common.{◌≡◌, take}
use Rattle.blz_set.specs.Missing.{missing_from}
use Rattle.blz_set.specs.References.{shown}
use Rattle.blz_set.proofs.set.RecordSet.missing.Given as goal

abbrev pub invariant-loop-row : goal.invariant-loop-row
invariant-loop-row l = shown l.rows.items ≡ missing_from l.self (take l.row-index l.row-items)
