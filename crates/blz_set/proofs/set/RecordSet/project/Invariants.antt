-- the keys so far
use Rattle.std.proofs.Common.{◌≡◌, take}
use Rattle.blz_value.specs.Operators.{project_rows}
use Rattle.blz_set.specs.Code.Entry.{rows_of}
use Rattle.blz_set.proofs.set.RecordSet.project.Given as goal

abbrev pub invariant-loop-first : goal.invariant-loop-first
invariant-loop-first l = l.rows.items ≡ project_rows l.columns (rows_of (take l.first-index l.first-items))
