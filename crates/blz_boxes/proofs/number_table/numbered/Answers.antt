use Rattle.std.proofs.Common.{◌≡◌, ◌+◌, ◌∙◌, ap, rules, to_z, of_z, w64, pos}
use Rattle.blz_boxes.specs.Code.Numbers.{with_number}
use Rattle.blz_boxes.proofs.NumberRows.{numbered_more}
use Rattle.blz_boxes.proofs.number_table.numbered.Goals as goal

pub loop-i-preserved : goal.loop-i-preserved
loop-i-preserved c =
    let number : to_z w64 (of_z w64 c.number_at.result) ≡ pos (c.args.first + c.loop-i.i) = search rules in
    let made = c.in_ok-with_number.ensures ∙ ap (with_number c.index-rows-i.result.now) number in
    rw (numbered_more c.args.first c.args.rows.now c.loop-i.i c.index-rows-i.result c.loop-i-test.true, ← c.loop-i.invariant, ← c.index-rows-i.is, ← made) c.in_ok-push.ensures.items
