use Rattle.std.proofs.Common.{◌≡◌, ◌∙◌, ap, ◌≤◌, ◌+◌, arith, rules, to_z, of_z, w64, pos}
use Rattle.std.specs.BTreeMap.{btree_map_len}
use Rattle.blz_boxes.proofs.NumberRows.{stands_first, stands_at}
use Rattle.blz_boxes.proofs.number_table.keep_all.Goals as goal

pub loop-i-init : goal.loop-i-init
loop-i-init c = (stands_first c.args.numbers.now c.args.first c.requires.ordered, omega arith)

pub loop-i-preserved : goal.loop-i-preserved
loop-i-preserved c =
    let inserted = c.in_ok-insert.ensures in
    let copied = c.in_ok-copy.ensures ∙ ap (λ r. r.now) c.index-rows-i.is in
    let number : to_z w64 (of_z w64 c.number_at.result) ≡ pos (c.args.first + c.loop-i.i) = search rules in
    let grown : btree_map_len c.insert.new.self ≤ btree_map_len c.loop-i.numbers + 1 = search rules in (
      stands_at c.args.numbers.now c.loop-i.numbers c.insert.new.self c.args.first c.args.rows.now c.loop-i.i c.index-rows-i.result c.in_ok-copy.field-0 (to_z w64 (of_z w64 c.number_at.result)) c.loop-i-test.true c.requires.sorted c.requires.fresh c.loop-i.invariant.0 copied number inserted.updates.0 inserted.ordered,
      omega (arith, grown, c.loop-i.invariant.1),
    )
