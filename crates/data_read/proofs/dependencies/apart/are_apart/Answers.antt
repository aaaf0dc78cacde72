use Rattle.std.proofs.Common.{◌∙◌, sym, arith}
use Rattle.data_read.proofs.ApartLemmas.{apart_none, apart_next, apart_all}
use Rattle.data_read.proofs.dependencies.apart.are_apart.Goals as goal

pub loop-one-init : goal.loop-one-init
loop-one-init c = apart_none c.args.sided.now c.args.values.now.keys c.requires

pub loop-one-preserved : goal.loop-one-preserved
loop-one-preserved c =
    apart_next c.args.sided.now c.loop-one.one-index c.one-item.result c.loop-one.values.keys c.loop-one.invariant c.loop-one-test.true c.one-item.is
    c.number_of.new.sides.keys c.side_at.result c.in_ok-number.number c.side_at.ensures.values c.in_ok-number.ensures.number c.in_ok-number.ensures.kept (sym c.is_some.ensures ∙ c.if-is_some.false)

pub returns : goal.returns
returns c = λ yes. apart_all c.args.sided.now c.loop-one.one-index c.loop-one.values.keys c.loop-one.invariant (omega arith)
