use Rattle.std.proofs.Common.{arith, ap, length}
use Rattle.std.proofs.lemmas.List.Filters.{dedup_is}
use Rattle.blz_value.proofs.RowSets.{set_of-dedup}
use Rattle.blz_set.proofs.RecordSets.{set_is_set}
use Rattle.blz_set.proofs.set.RecordSet.from_rows.Goals as goal

pub returns-then-len-gt-ROW_LIMIT : goal.returns-then-len-gt-ROW_LIMIT
returns-then-len-gt-ROW_LIMIT c =
    let made = set_of-dedup _ _ _ c.sort_unstable.ensures.permutation c.sort_unstable.ensures.sorted (dedup_is _ _ _ c.dedup.ensures.filtered) in
    omega (arith, ap length made)

pub invariant_of-result : goal.invariant_of-result
invariant_of-result c =
    set_is_set c.args.rows.items c.dedup.new.self.items (set_of-dedup _ _ _ c.sort_unstable.ensures.permutation c.sort_unstable.ensures.sorted (dedup_is _ _ _ c.dedup.ensures.filtered)) (omega arith)

pub returns : goal.returns
returns c =
    let made = set_of-dedup _ _ _ c.sort_unstable.ensures.permutation c.sort_unstable.ensures.sorted (dedup_is _ _ _ c.dedup.ensures.filtered) in
    (made, omega (arith, ap length made))
