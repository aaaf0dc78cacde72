use Rattle.std.proofs.Common.{◌≡◌, ◌∙◌, List, refl, sym, ap, subst, arith}
use Rattle.std.proofs.lemmas.List.{append-nil}
use Rattle.blz_value.specs.Record.{Row}
use Rattle.blz_value.specs.Sets.{set_of, IsRowSet}
use Rattle.blz_value.proofs.RowSets.{set_of-sorted}
use Rattle.bloom_growth.specs.TurningGroups.{AreTallied}
use Rattle.bloom_growth.proofs.TurnedGroups.{tallied_at}
use Rattle.bloom_growth.proofs.turning_groups.TurningGroups.put_all.Goals as goal

pub loop-row-init : goal.loop-row-init
loop-row-init c = record {
  keys = refl;
  agg = refl;
  tallied = λ rows sorted few apart are. subst (λ (l : List Row). AreTallied c.args.self.now.keys.items c.args.self.now.agg l c.args.self.now.tallies) (sym (ap set_of (append-nil rows) ∙ set_of-sorted rows sorted)) are;
}

pub loop-row-preserved : goal.loop-row-preserved
loop-row-preserved c =
    let own = c.args.self.now in
    let self = c.loop-row.self in
    let items = c.rows-row-items.result.now in
    let same : self.keys.items ≡ own.keys.items = ap (λ v. v.items) c.loop-row.invariant.keys in
    record {
      keys = c.in_ok-put.ensures.keys ∙ c.loop-row.invariant.keys;
      agg = c.in_ok-put.ensures.agg ∙ c.loop-row.invariant.agg;
      tallied = λ rows sorted few apart are.
          tallied_at own.keys.items self.keys.items own.agg self.agg rows items self.tallies c.put.new.self.tallies c.loop-row.row-index c.row-item.result same c.loop-row.invariant.agg (subst IsRowSet (sym c.rows-row-items.ensures.all) c.rows-row-items.ensures.set.sorted) few apart (omega arith) c.row-item.is
          (c.loop-row.invariant.tallied rows sorted few apart are) c.in_ok-put.ensures.tallied;
    }
