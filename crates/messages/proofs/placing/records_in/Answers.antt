use Rattle.std.proofs.Common.{List, arith, subst}
use Rattle.std.proofs.lemmas.List.{take_all}
use Rattle.messages.specs.Code.Placing.{HaveFirst}
use Rattle.messages.specs.declared.message.Message.{Message as IdMessage}
use Rattle.messages.proofs.PlacingLemmas.{none_first, first_further}
use Rattle.messages.proofs.placing.records_in.Goals as goal

pub loop-list-init : goal.loop-list-init
loop-list-init c = none_first

pub loop-list-preserved : goal.loop-list-preserved
loop-list-preserved c =
    first_further c.args.lists.now c.loop-list.list-index c.loop-list.known c.in_ok-known.known c.list-item.result c.loop-list-test.true c.list-item.is c.loop-list.invariant c.in_ok-known.ensures

pub returns : goal.returns
returns c = subst (λ (ls : List (List IdMessage)). HaveFirst ls c.loop-list.known) (take_all c.loop-list.list-index c.args.lists.now (omega (arith, c.loop-list-test.false))) c.loop-list.invariant
