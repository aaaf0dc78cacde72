use Rattle.std.proofs.Common.{◌++◌, length, ap, arith}
use Rattle.std.proofs.lemmas.List.{length-append}
use Rattle.blz_value.proofs.RowSets.{length-set_of-le}
use Rattle.blz_set.proofs.merge.merge_in.Goals as goal

pub put_on-requires : goal.put_on-requires
put_on-requires c =
    let rows = c.reserve.new.self.items in
    let more = c.args.more.now.items in
    omega (
      arith,
      ap length c.in_ok-blocks.ensures.ok,
      length-set_of-le (rows ++ more),
      length-append rows more,
      c.in_ok-reserve.ensures.ok,
      c.len-3.ensures,
      c.in_ok-blocks.ensures.room,
    )
