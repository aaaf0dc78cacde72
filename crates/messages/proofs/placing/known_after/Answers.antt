use Rattle.std.proofs.Common.{arith}
use Rattle.messages.proofs.PlacingLemmas.{goes_none, goes_further, goes_all}
use Rattle.messages.proofs.placing.known_after.Goals as goal

pub loop-index-init : goal.loop-index-init
loop-index-init c = goes_none c.args.before

pub loop-index-preserved : goal.loop-index-preserved
loop-index-preserved c =
    goes_further c.args.before c.loop-index.known c.in_ok-known.known c.loop-index.index c.args.list.now c.row.result c.known_behind.result
    (omega (arith, c.loop-index-test.true, c.len-index-end.ensures)) c.row.ensures c.known_behind.ensures c.in_ok-known.was c.loop-index.invariant

pub returns : goal.returns
returns c = goes_all c.args.before c.loop-index.known c.loop-index.index c.args.list.now (omega (arith, c.loop-index-test.false, c.len-index-end.ensures)) c.loop-index.invariant
