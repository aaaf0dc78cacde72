use Rattle.std.proofs.Common.{◌≡◌, ◌∙◌, sym, ap, subst, arith, take_all}
use Rattle.blz_value.specs.Operators.{select_rows}
use Rattle.blz_value.specs.Test.{test_holds}
use Rattle.blz_set.specs.RecordSet.{IsRecordSet}
use Rattle.blz_set.proofs.RecordSets.{filter_is_set, gives_filter}
use Rattle.blz_set.proofs.set.RecordSet.select.Goals as goal

pub invariant_of-result : goal.invariant_of-result
invariant_of-result c =
    let made = c.loop-row.invariant ∙ ap (select_rows (test_holds c.args.test.now)) (take_all c.loop-row.row-index c.rows-row-items.result.now (omega arith) ∙ c.rows-row-items.ensures.all) in
    subst IsRecordSet (sym made) (filter_is_set (test_holds c.args.test.now) c.args.self.now c.rows-row-items.ensures.set)

pub returns : goal.returns
returns c =
    let made = c.loop-row.invariant ∙ ap (select_rows (test_holds c.args.test.now)) (take_all c.loop-row.row-index c.rows-row-items.result.now (omega arith) ∙ c.rows-row-items.ensures.all) in
    gives_filter (test_holds c.args.test.now) c.args.self.now c.loop-row.rows.items c.rows-row-items.ensures.set made
