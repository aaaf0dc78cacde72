use Rattle.std.proofs.Common.{◌≤◌, ◌<◌, ◌∙◌, length, sym, arith}
use Rattle.std.proofs.lemmas.Map.Views.{tells_apart}
use Rattle.blz_value.specs.RecordOrder.{record_cmp_exact}
use Rattle.bloom_parts.specs.Turns.{rows_in}
use Rattle.bloom_index.proofs.Arriving.{row_got, is_lone}
use Rattle.bloom_index.proofs.puts.is_arrived.Goals as goal

pub returns-in-len1 : goal.returns-in-len1
returns-in-len1 c = λ same.
    let items = c.as_rows.result.now in
    let least : 1 ≤ length items = omega arith in
    let below : length items < 2 = omega arith in
    is_lone items (rows_in c.args.rows.now) c.args.pool.now c.row-item.result c.get.result.now c.args.id.now c.as_rows.ensures least below c.row-item.is (tells_apart record_cmp_exact c.row-item.result c.get.result.now (sym c.eq.ensures ∙ same))
    (row_got c.args.pool.now c.args.id.now c.get.result.now c.requires c.get.ensures.record)
