use Rattle.std.proofs.Common.{◌≤◌, ◌≡◌, arith, length, rules}
use Rattle.std.proofs.lemmas.List.Filters.{dedup_is}
use Rattle.blz_value.proofs.RowSets.{set_of-dedup}
use Rattle.inbox.proofs.Keeping.Touching.{few_in_order}
use Rattle.inbox.proofs.inbox.in_order.Goals as goal

pub returns-then-len-le1 : goal.returns-then-len-le1
returns-then-len-le1 c =
    let count : c.len.result ≡ length c.args.keys.items = search rules in
    let le : c.len.result ≤ 1 = c.if-len-le1.true in
    few_in_order c.args.keys.items (omega arith)

pub returns : goal.returns
returns c = set_of-dedup _ _ _ c.sort_unstable.ensures.permutation c.sort_unstable.ensures.sorted (dedup_is _ _ _ c.dedup.ensures.filtered)
