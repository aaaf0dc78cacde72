use Rattle.std.proofs.Common.{◌∙◌, ap, Some}
use Rattle.data_read.proofs.PairLemmas.{stands_none, found_below, found_pair, stands_more}
use Rattle.data_read.proofs.dependencies.pair_by.Goals as goal

pub loop-one-init : goal.loop-one-init
loop-one-init c = stands_none c.args.sided.now c.args.from.now.keys c.args.to.now.keys c.requires.from c.requires.to

pub row_at-requires : goal.row_at-requires
row_at-requires c =
    found_below c.args.sided.now c.loop-one.one-index c.one-item.result c.loop-one.from.keys c.loop-one.to.keys c.loop-one.invariant c.loop-one-test.true c.one-item.is
    c.side_at.result c.side_at-in-loop-one.result c.side_at.ensures.values c.side_at-in-loop-one.ensures.values c.side_at.ensures.row c.in_ok-first.first c.in_ok-second.second c.in_ok-first.ensures.number c.in_ok-second.ensures.number
    c.number_of.new.sides.keys c.in-Some.earlier c.in_ok-first.ensures.kept c.in-Some.ensures

pub returns-in-Some : goal.returns-in-Some
returns-in-Some c =
    ap (λ r. Some (r, c.one-item.result.row.now)) (c.row_at.ensures c.side_at.result)
    ∙ found_pair c.args.sided.now c.loop-one.one-index c.one-item.result c.loop-one.from.keys c.loop-one.to.keys c.loop-one.invariant c.loop-one-test.true c.one-item.is
    c.side_at.result c.side_at-in-loop-one.result c.side_at.ensures.values c.side_at-in-loop-one.ensures.values c.side_at.ensures.row c.in_ok-first.first c.in_ok-second.second c.in_ok-first.ensures.number c.in_ok-second.ensures.number
    c.number_of.new.sides.keys c.in-Some.earlier c.side_at.result c.in_ok-first.ensures.kept c.in-Some.ensures

pub loop-one-preserved : goal.loop-one-preserved
loop-one-preserved c =
    stands_more c.args.sided.now c.loop-one.one-index c.one-item.result c.loop-one.from.keys c.loop-one.to.keys c.loop-one.invariant c.loop-one-test.true c.one-item.is
    c.side_at.result c.side_at-in-loop-one.result c.side_at.ensures.values c.side_at-in-loop-one.ensures.values c.side_at.ensures.row c.in_ok-first.first c.in_ok-second.second c.in_ok-first.ensures.number c.in_ok-second.ensures.number
    c.number_of.new.sides.keys c.number_of-in-loop-one.new.sides.keys c.in_ok-first.ensures.kept c.in_ok-second.ensures.kept c.in-None.ensures
