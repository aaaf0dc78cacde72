use Rattle.blz_value.specs.RecordOrder.{record_cmp_total, record_cmp_exact}
use Rattle.blz_value.proofs.laws.record_order_law.Goals as goal

pub returns : goal.returns
returns c = record { total = record_cmp_total; exact = record_cmp_exact }
