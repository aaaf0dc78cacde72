use Rattle.std.proofs.Common.{sym, subst}
use Rattle.blz_set.specs.RecordSet.{IsRecordSet}
use Rattle.bloom_parts.specs.declared.change.Rows.{Rows}
use Rattle.bloom_parts.specs.Turns.{rows_in}
use Rattle.bloom_parts.proofs.Putting.{one_is_set}
use Rattle.bloom_parts.proofs.change.Rows.known.Goals as goal

pub returns-in-One : goal.returns-in-One
returns-in-One c = subst (λ (rows : Rows). IsRecordSet (rows_in rows)) (sym c.in-One.is) (one_is_set _)
