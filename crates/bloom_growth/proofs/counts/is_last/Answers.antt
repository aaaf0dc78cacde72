use Rattle.std.proofs.Common.{◌≡◌, ◌+◌, ◌-◌, ◌<◌, ◌∙◌, Some, sym, arith, rules}
use Rattle.std.specs.BTreeMap.{is_at}
use Rattle.std.proofs.lemmas.Map.Steps.{set_value_same}
use Rattle.bloom_growth.proofs.CountsLemmas.{counted_less, one_less}
use Rattle.bloom_growth.proofs.counts.is_last.Goals as goal

pub returns-then-count-le1-clause-same : goal.returns-then-count-le1-clause-same
returns-then-count-le1-clause-same g c = λ is.
    (c.get_mut.follows.holds c.in-Some.count.now).0 ∙ set_value_same (is_at (g.K.Ord.cmp c.args.key.now)) c.args.counts.now.entries c.in-Some.count.now (sym c.in-Some.ensures.value)

pub returns-else-count-le1-clause-less : goal.returns-else-count-le1-clause-less
returns-else-count-le1-clause-less g c = λ is keys are.
    let old = c.args.counts.now in
    let key = c.args.key.now in
    let n = c.in-Some.count.now in
    let next = n - 1 in
    let some : 1 < n = omega arith in
    let more : n ≡ next + 1 = omega arith in
    counted_less g.met.K.Ord.total keys key old (c.get_mut.follows.lender next) (Some next) (one_less g.met.K.Ord.total keys key old n next some more c.in-Some.ensures.value are)
    ((c.get_mut.follows.holds next).3 (search rules)).0 are
