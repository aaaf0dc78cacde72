use Rattle.std.proofs.Common.{◌≡◌, ◌+◌, ◌^◌, ◌<◌, ap, arith, rules, sym}
use Rattle.std.specs.Option.{unwrap_or}
use Rattle.messages.specs.EmittedCounts.{count_of}
use Rattle.messages.proofs.CountsLemmas.{count_more}
use Rattle.messages.proofs.counts.is_again.Goals as goal

pub overflow_add-count : goal.overflow_add-count
overflow_add-count c =
    let had : c.in-Some.count.now ≡ count_of c.args.counts.now c.args.key.now = ap (λ o. unwrap_or o 0) c.in-Some.ensures.value in
    let room : count_of c.args.counts.now c.args.key.now + 1 < 2 ^ 32 = c.requires in
    omega (arith, had, room)

pub returns-in-Some-clause-more : goal.returns-in-Some-clause-more
returns-in-Some-clause-more c = λ is k.
    let n = c.in-Some.count.now in
    count_more c.args.counts.now (c.get_mut.follows.lender (n + 1)) c.args.key.now (n + 1) ((c.get_mut.follows.holds (n + 1)).3 (search rules)).0 (ap (λ o. unwrap_or o 0 + 1) c.in-Some.ensures.value) k

pub returns-in-None-clause-none : goal.returns-in-None-clause-none
returns-in-None-clause-none c = λ is. sym (ap (λ o. unwrap_or o 0) c.in-None.ensures.value)
