-- the keys so far with their aggregates
use Rattle.std.proofs.Common.{◌≡◌, take, map}
use Rattle.blz_value.specs.Operators.{project_rows}
use Rattle.blz_set.specs.Code.Groups.{grouped}
use Rattle.blz_set.specs.Code.Entry.{rows_of}
use Rattle.blz_set.proofs.set.RecordSet.group.Given as goal

abbrev pub invariant-loop-first : goal.invariant-loop-first
invariant-loop-first l = l.rows.items ≡ map (grouped l.keys l.agg l.self) (project_rows l.keys (rows_of (take l.first-index l.first-items)))
