use Rattle.std.proofs.Common.{◌≡◌, get_or, length, subst, arith}
use Rattle.std.proofs.lemmas.Option.{slice_get-get_or}
use Rattle.sched_run.specs.Code.Watch.{AreTakersBelow}
use Rattle.sched_run.proofs.TablesLemmas.{takers_none, takers_more}
use Rattle.sched_run.proofs.WorksLemmas.{no_taker}
use Rattle.sched_run.proofs.tables.takers_of.Goals as goal

pub loop-number-init : goal.loop-number-init
loop-number-init c = takers_none c.args.valid.now.view c.args.before c.args.all.now c.in_ok-takers.takers _ c.in_ok-takers.ensures (let many = c.component_count.ensures in omega (arith, many))

pub loop-number-preserved : goal.loop-number-preserved
loop-number-preserved c =
    let takers = c.args.all.now in
    let i = c.loop-number.number in
    takers_more c.args.valid.now.view c.args.before takers i c.loop-number.takers c.add.new.self (get_or takers i no_taker) c.loop-number.invariant
    (slice_get-get_or takers i no_taker c.loop-number-test.true)
    (let there = (c.requires.takers i no_taker c.loop-number-test.true).there in omega (arith, there, c.loop-number.invariant.count))
    c.in_ok-add.ensures

pub returns : goal.returns
returns c =
    let all : c.loop-number.number ≡ length c.args.all.now = omega (arith, c.loop-number-test.false, c.loop-number.auto.number-end) in
    subst (λ n. AreTakersBelow c.args.valid.now.view c.args.before c.args.all.now n c.loop-number.takers) all c.loop-number.invariant
