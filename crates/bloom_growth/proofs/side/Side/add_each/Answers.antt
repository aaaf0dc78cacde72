use Rattle.std.proofs.Common.{◌∙◌, ◌++◌, List, refl, sym, ap, subst, arith}
use Rattle.std.proofs.lemmas.List.{append-nil}
use Rattle.blz_value.specs.Record.{Row}
use Rattle.blz_value.specs.Sets.{set_of}
use Rattle.blz_value.proofs.RowSets.{set_of-sorted}
use Rattle.blz_set.proofs.Unions.{handed_on}
use Rattle.bloom_growth.specs.ByKey.{AreByKey, MakesByKey}
use Rattle.bloom_growth.proofs.SidesLemmas.{side_at, side_later}
use Rattle.bloom_growth.proofs.side.Side.add_each.Goals as goal

pub loop-row-init : goal.loop-row-init
loop-row-init c = record {
  columns = refl;
  side = λ rows sorted side. subst (λ (l : List Row). AreByKey c.args.self.now.columns.items l c.args.self.now.sets) (sym (ap set_of (append-nil rows) ∙ set_of-sorted rows sorted)) side;
}

pub loop-row-preserved : goal.loop-row-preserved
loop-row-preserved c = record {
  columns = c.in_ok-add.ensures.columns ∙ c.loop-row.invariant.columns;
  side = λ rows sorted side.
      side_at c.args.self.now.columns.items c.loop-row.self.columns.items rows c.rows-row-items.result.now c.loop-row.self.sets c.add.new.self.sets c.loop-row.row-index c.row-item.result
      (ap (λ v. v.items) c.loop-row.invariant.columns) (omega arith) c.row-item.is (c.loop-row.invariant.side rows sorted side) c.in_ok-add.ensures.side;
}

pub returns-in_err-add-clause-side : goal.returns-in_err-add-clause-side
returns-in_err-add-clause-side c = λ rows sorted side.
    let columns = c.args.self.now.columns.items in
    subst (λ (l : List Row). MakesByKey columns (set_of (rows ++ l)) c.add.new.self.sets c.from_residual.result) c.rows-row-items.ensures.all
    (subst (MakesByKey columns (set_of (rows ++ c.rows-row-items.result.now)) c.add.new.self.sets) (sym (handed_on _ c.from_residual.result c.in_err-add.field-0.0 c.from_residual.ensures.1))
    (side_later columns c.loop-row.self.columns.items rows c.rows-row-items.result.now c.loop-row.self.sets c.add.new.self.sets c.add.new.self.sets c.loop-row.row-index c.row-item.result c.in_err-add.field-0.0
    (ap (λ v. v.items) c.loop-row.invariant.columns) (omega arith) c.row-item.is (c.loop-row.invariant.side rows sorted side) c.in_err-add.ensures.side))
