use Rattle.std.proofs.Common.{◌≡◌, ◌≤◌, ◌∙◌, ◌++◌, List, length, sym, ap, subst, arith}
use Rattle.std.proofs.lemmas.List.{append-nil}
use Rattle.blz_value.specs.Members.{Has}
use Rattle.blz_value.specs.Record.{Row}
use Rattle.blz_value.specs.Sets.{set_of, IsRowSet}
use Rattle.blz_value.proofs.RowSets.{set_of-sorted}
use Rattle.blz_set.specs.RecordSet.{row_limit}
use Rattle.bloom_growth.specs.TurningGroups.{AreTallied}
use Rattle.bloom_growth.proofs.TurnedGroups.{tallied_off, dropped}
use Rattle.bloom_growth.proofs.turning_groups.TurningGroups.take_all.Goals as goal

pub loop-row-preserved : goal.loop-row-preserved
loop-row-preserved c =
    let own = c.args.self.now in
    let self = c.loop-row.self in
    let items = c.rows-row-items.result.now in
    let same : self.keys.items ≡ own.keys.items = ap (λ v. v.items) c.loop-row.invariant.keys in
    record {
      keys = c.in_ok-take.ensures.keys ∙ c.loop-row.invariant.keys;
      agg = c.in_ok-take.ensures.agg ∙ c.loop-row.invariant.agg;
      tallied = λ rows sorted few apart are.
          tallied_off rows items c.loop-row.row-index c.row-item.result (subst IsRowSet (sym c.rows-row-items.ensures.all) c.rows-row-items.ensures.set.sorted) few apart (omega arith) c.row-item.is
          own.keys.items self.keys.items own.agg self.agg self.tallies c.take.new.self.tallies same c.loop-row.invariant.agg
          (c.loop-row.invariant.tallied rows sorted few apart are) c.in_ok-take.ensures.tallied;
    }

pub returns-clause-tallied : goal.returns-clause-tallied
returns-clause-tallied c = λ rows sorted few apart are.
    let own = c.args.self.now in
    let items = c.rows-row-items.result.now in
    let all : items ≡ c.args.gone.now = c.rows-row-items.ensures.all in
    let left = c.loop-row.invariant.tallied rows sorted (subst (λ (l : List Row). length (set_of (rows ++ l)) ≤ row_limit) (sym all) few) (λ q h. apart q (subst (λ (l : List Row). Has q l) all h))
    (subst (λ (l : List Row). AreTallied own.keys.items own.agg (set_of (rows ++ l)) own.tallies) (sym all) are) in
    subst (λ (l : List Row). AreTallied own.keys.items own.agg l c.loop-row.self.tallies) (ap (λ (l : List Row). set_of (rows ++ l)) (dropped items c.loop-row.row-index (omega arith)) ∙ ap set_of (append-nil rows) ∙ set_of-sorted rows sorted) left
