use Rattle.std.proofs.Common.{◌∙◌, List, refl, sym, ap, subst, arith}
use Rattle.std.proofs.lemmas.List.{take_all}
use Rattle.blz_value.specs.Record.{Row}
use Rattle.blz_set.specs.Missing.{missing_from}
use Rattle.bloom_growth.specs.ByKey.{AreByKey}
use Rattle.bloom_growth.proofs.KeyedLemmas.{keyed_at, less_none}
use Rattle.bloom_growth.proofs.keyed.KeyedRows.shrink.Goals as goal

pub loop-row-init : goal.loop-row-init
loop-row-init c = record {
  columns = refl;
  side = λ rows sorted side. subst (λ (l : List Row). AreByKey c.args.self.now.columns.items l c.args.self.now.sets) (sym (less_none rows sorted)) side;
}

pub loop-row-preserved : goal.loop-row-preserved
loop-row-preserved c = record {
  columns = c.in_ok-take.ensures.columns ∙ c.loop-row.invariant.columns;
  side = λ rows sorted side.
      keyed_at c.args.self.now.columns.items c.loop-row.self.columns.items rows c.rows-row-items.result.now c.loop-row.self.sets c.take.new.self.sets c.loop-row.row-index c.row-item.result sorted
      (ap (λ v. v.items) c.loop-row.invariant.columns) (omega arith) c.row-item.is (c.loop-row.invariant.side rows sorted side) c.in_ok-take.ensures.rows;
}

pub returns-clause-rows : goal.returns-clause-rows
returns-clause-rows c = λ rows sorted side.
    let columns = c.args.self.now.columns.items in
    let items = c.rows-row-items.result.now in
    subst (λ (l : List Row). AreByKey columns (missing_from l rows) c.loop-row.self.sets) (take_all c.loop-row.row-index items (omega arith) ∙ c.rows-row-items.ensures.all) (c.loop-row.invariant.side rows sorted side)
