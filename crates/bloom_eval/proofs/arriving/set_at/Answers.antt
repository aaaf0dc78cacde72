use Rattle.std.proofs.Common.{ap, length, arith, List}
use Rattle.blz_value.specs.Record.{Row}
use Rattle.blz_value.specs.Sets.{set_of}
use Rattle.bloom_eval.proofs.EntriesRead.{few_rows}
use Rattle.bloom_eval.proofs.arriving.set_at.Goals as goal

pub set_within-requires : goal.set_within-requires
set_within-requires c =
    let few = few_rows c.args.pool.now c.args.port c.args.entries.now c.requires in
    let same = ap (λ (rows : List Row). length {A = Row} (set_of rows)) c.in_ok-rows_at.ensures in
    omega (arith, few, same, c.len-few.ensures.few)
