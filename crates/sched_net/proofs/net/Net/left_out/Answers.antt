use Rattle.std.proofs.Common.{◌∙◌, sym, subst, arith}
use Rattle.messages.specs.Log.{AreGiven}
use Rattle.sched_net.proofs.LeftSeen.{none_unordered, unordered_is, log_found, few_found, feeds_found}
use Rattle.sched_net.proofs.net.Net.left_out.Goals as goal

pub returns-then-not-is_order-clause-left : goal.returns-then-not-is_order-clause-left
returns-then-not-is_order-clause-left g c given steps stand =
    none_unordered c.args.self.now.valid.now.view given steps c.args.self.now.books stand c.bounded.ensures.valid c.args.component c.requires.component (sym c.is_order.ensures ∙ c.if-not-is_order.true)

pub unordered-requires-clause-log : goal.unordered-requires-clause-log
unordered-requires-clause-log g c =
    let stand = c.requires.runs.stand in
    subst (AreGiven c.args.self.now.books.lists.records) (sym (log_found c.args.self.now.valid.now.view c.requires.runs.given c.requires.runs.steps c.args.self.now.books stand c.args.component c.index-log.result.now c.requires.component c.index-log.ensures)) (stand.logs.given c.args.component c.requires.component)

pub unordered-requires-clause-few : goal.unordered-requires-clause-few
unordered-requires-clause-few g c =
    few_found c.args.self.now.valid.now.view c.requires.runs.given c.requires.runs.steps c.args.self.now.books c.requires.runs.stand c.bounded.ensures.valid c.args.component 0 c.seat_at.result.now c.as_slice.result.now c.requires.component
    (omega (arith, (c.bounded.ensures.valid.components c.args.component c.requires.component).some_replica)) (c.bounded.ensures.ports c.args.component c.requires.component) c.seat_at.ensures c.as_slice.ensures

pub returns-clause-left : goal.returns-clause-left
returns-clause-left g c given steps stand =
    unordered_is c.args.self.now.valid.now.view given steps c.args.self.now.books stand c.bounded.ensures.valid c.args.component c.requires.component c.index-log.result.now c.as_slice.result.now c.unordered.result
    (sym c.is_order.ensures ∙ c.if-not-is_order.false)
    (log_found c.args.self.now.valid.now.view given steps c.args.self.now.books stand c.args.component c.index-log.result.now c.requires.component c.index-log.ensures)
    (feeds_found c.args.self.now.valid.now.view given steps c.args.self.now.books stand c.args.component 0 c.seat_at.result.now c.as_slice.result.now c.requires.component (omega (arith, (c.bounded.ensures.valid.components c.args.component c.requires.component).some_replica)) c.seat_at.ensures c.as_slice.ensures)
    c.unordered.ensures.count
