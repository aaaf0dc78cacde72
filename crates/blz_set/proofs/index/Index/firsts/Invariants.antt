-- the keys so far
use Rattle.std.proofs.Common.{◌≡◌, take}
use Rattle.blz_value.specs.Sets.{set_of}
use Rattle.blz_value.specs.Operators.{project_rows}
use Rattle.blz_set.specs.Code.Entry.{rows_of}
use Rattle.blz_set.proofs.index.Index.firsts.Given as goal

abbrev pub invariant-loop-i : goal.invariant-loop-i
invariant-loop-i l = project_rows l.self.columns.now (rows_of l.firsts.items) ≡ set_of (project_rows l.self.columns.now (rows_of (take l.i l.entries)))
