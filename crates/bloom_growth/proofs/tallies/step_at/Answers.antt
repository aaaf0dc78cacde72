use Rattle.std.proofs.Common.{rules}
use Rattle.bloom_growth.proofs.TurningLemmas.{on_at, steps_at}
use Rattle.bloom_growth.proofs.tallies.step_at.Goals as goal

pub returns-in_ok-after-in-Some : goal.returns-in_ok-after-in-Some
returns-in_ok-after-in-Some c =
    let agg = c.args.agg in
    let key = c.args.key.now in
    let row = c.args.row.now in
    let old = c.args.tallies.now in
    let tally = c.in-Some.tally.now in
    let next = c.put.new.self in
    let new = c.get_mut.follows.lender next in
    let updates = ((c.get_mut.follows.holds next).3 (search rules)).0 in (
      on_at agg key row old new tally next c.in-Some.ensures.value updates c.in_ok-put-in-Some.ensures,
      steps_at agg key row old new tally next _ _ c.in-Some.ensures.value updates c.in_ok-before-in-Some.ensures c.in_ok-after-in-Some.ensures,
    )
