use Rattle.std.proofs.Common.{◌≡◌, ◌<◌, not, true, false, [], ◌∷◌, List, length, take, ap, arith, rules, length-append}
use Rattle.blz_value.specs.Record.{Row}
use Rattle.blz_set.specs.Missing.{has_row, missing_from}
use Rattle.blz_set.proofs.RecordSets.{filter_step, has_row-from_Has, has_row-from_lacks}
use Rattle.bloom_growth.proofs.bag.Bag.missing.Goals as goal
use Rattle.bloom_growth.proofs.bag.Bag.missing.Goals.{then-not-contains, else-not-contains}

pub loop-row-preserved : goal.loop-row-preserved
loop-row-preserved c =
    let row = c.row-item.result in
    let items = c.rows-row-items.result.now in
    let i = c.loop-row.row-index in
    let lt : i < length items = omega arith in
    let more = λ (rows : List Row). filter_step (λ (r : Row). not (has_row rows r)) items i row lt c.row-item.is in
    elim c.if-not-contains.branch [
      | then-not-contains w ↦
          record {
            few = omega arith;
            all = λ rows is.
                let no : c.contains.result ≡ false = search rules in
                let lacks : has_row rows row ≡ false = has_row-from_lacks rows row (λ h. let there : c.contains.result ≡ true = (c.contains.ensures rows is).1 h in cc) in
                omega (arith, w.count-is, c.loop-row.invariant.all rows is, ap length (more rows true (ap not lacks)), length-append (missing_from rows (take i items)) (row ∷ []));
          }
      | else-not-contains w ↦
          record {
            few = omega arith;
            all = λ rows is.
                let yes : c.contains.result ≡ true = search rules in
                let has : has_row rows row ≡ true = has_row-from_Has rows row ((c.contains.ensures rows is).0 yes) in
                omega (arith, w.count-is, c.loop-row.invariant.all rows is, ap length (more rows false (ap not has)), length-append (missing_from rows (take i items)) []);
          }
    ]
