use Rattle.std.proofs.Common.{◌<◌, length, arith}
use Rattle.blz_value.specs.Operators.{select_rows}
use Rattle.blz_value.specs.Sets.{set_of}
use Rattle.blz_value.specs.Test.{test_holds}
use Rattle.blz_set.specs.RecordSet.{row_limit}
use Rattle.bloom_parts.proofs.Turning.{few_selected}
use Rattle.bloom_parts.proofs.picks.chosen_set.Goals as goal

pub unreachable-requires : goal.unreachable-requires
unreachable-requires c =
    let fault = c.in-Err-TooManyRows in
    let over : row_limit < length (set_of (select_rows (test_holds c.args.test.now) c.args.set.now)) = rw fault.field-0-is at fault.ensures in
    omega (arith, over, few_selected (test_holds c.args.test.now) c.args.set.now c.rows-rows.ensures.set.small)
