use Rattle.std.proofs.Common.{◌≡◌, ◌+◌, ◌≤◌, length, arith, rules}
use Rattle.blz_set.proofs.RecordSets.{length-filter-le}
use Rattle.std.specs.Ordering.{eq_by_cmp}
use Rattle.bloom_growth.specs.Counts.{times}
use Rattle.bloom_growth.proofs.CountsLemmas.{counted_more, stands_at}
use Rattle.bloom_growth.proofs.counts.is_again.Goals as goal

pub returns-in-Some-clause-more : goal.returns-in-Some-clause-more
returns-in-Some-clause-more g c = λ is keys few are.
    let old = c.args.counts.now in
    let key = c.args.key.now in
    let n = c.in-Some.count.now in
    let next = c.saturating_add.result in
    let count : n ≡ times g.K.Ord.cmp keys key = stands_at g.met.K.Ord.total keys key old n c.in-Some.ensures.value are in
    let most : times g.K.Ord.cmp keys key ≤ length keys = length-filter-le (λ other. eq_by_cmp g.K.Ord.cmp other key) keys in
    let more : next ≡ n + 1 = omega arith in
    counted_more g.met.K.Ord.total keys key old (c.get_mut.follows.lender next) n next count more ((c.get_mut.follows.holds next).3 (search rules)).0 are
