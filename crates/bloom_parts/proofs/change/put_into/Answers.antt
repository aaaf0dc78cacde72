use Rattle.std.proofs.Common.{◌≡◌, length, refl, arith}
use Rattle.bloom_parts.proofs.Putting.{put_where_none}
use Rattle.bloom_parts.proofs.change.put_into.Goals as goal

pub returns : goal.returns
returns c =
    let none : length c.args.into.now ≡ 0 = omega (arith, c.len.ensures, c.if-len-gt0.false) in
    put_where_none c.args.into.now c.args.set _ none c.rows-rows.ensures.set refl
