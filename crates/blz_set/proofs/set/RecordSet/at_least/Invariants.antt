-- the keys so far that occur often
use Rattle.std.proofs.Common.{◌≡◌, take, filter}
use Rattle.blz_value.specs.Operators.{project_rows}
use Rattle.blz_set.specs.Code.Groups.{is_often}
use Rattle.blz_set.specs.Code.Entry.{rows_of}
use Rattle.blz_set.proofs.set.RecordSet.at_least.Given as goal

abbrev pub invariant-loop-first : goal.invariant-loop-first
invariant-loop-first l = l.rows.items ≡ filter (is_often l.keys l.bound l.self) (project_rows l.keys (rows_of (take l.first-index l.first-items)))
