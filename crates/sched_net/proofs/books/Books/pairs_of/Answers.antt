use Rattle.std.proofs.Common.{◌<◌, ℕ, length, ap, subst}
use Rattle.std.specs.Prelude.{Result, Ok, Err}
use Rattle.inbox.specs.Events.{Part}
use Rattle.messages.specs.Ids.{IsGiven, message_with_id}
use Rattle.inbox.specs.Wiring.{instance_for, feeds_for}
use Rattle.messages.specs.declared.message.Message.{Message}
use Rattle.sched_net.specs.Code.Parts.{PairAnswers, PairsAnswer, StandsAt}
use Rattle.messages.specs.Lists.{read_lists}
use Rattle.messages.specs.declared.fault.EventFault.{EventFault}
use Rattle.sched_net.specs.declared.parts.Pairs.{Pairs}
use Rattle.messages.proofs.FaultLemmas.{handed_on}
use Rattle.sched_net.proofs.PartsFound.{refused_at, pushed_so_far, all_pushed, all_so_far}
use Rattle.sched_net.proofs.books.Books.pairs_of.Goals as goal

pub returns-in_err-feed-clause-pairs : goal.returns-in_err-feed-clause-pairs
returns-in_err-feed-clause-pairs c =
    handed_on (λ (r : Result Pairs EventFault). PairsAnswer c.args.valid.now.view c.args.self.now c.args.component c.args.replica c.args.parts.now r (λ (all : Pairs). all.pairs.items)) c.from_residual.result c.in_err-feed.field-0.0 c.from_residual.ensures.1
    (refused_at c.args.valid.now.view c.args.self.now c.args.component c.args.replica c.args.parts.now c.loop-part.part-index c.part-item.result c.loop-part-test.true c.part-item.is c.loop-part.pairs.items c.loop-part.indexes.items c.loop-part.invariant.so_far (λ (all : Pairs). all.pairs.items) c.in_err-feed.field-0.0
    (subst (λ (p : Part). PairAnswers c.args.valid.now.view c.args.self.now c.args.component c.args.replica p (Err c.in_err-feed.field-0.0)) c.part.view_is c.in_err-feed.ensures.pair))

pub loop-part-preserved : goal.loop-part-preserved
loop-part-preserved c = record {
  so_far = pushed_so_far c.args.valid.now.view c.args.self.now c.args.component c.args.replica c.args.parts.now c.loop-part.part-index c.part-item.result c.loop-part-test.true c.part-item.is c.loop-part.pairs.items c.loop-part.indexes.items c.loop-part.invariant.so_far c.in_ok-feed.feed c.in_ok-feed.message c.part.inside.index c.push.new.self.items c.push-in-loop-part.new.self.items
      (subst (λ (p : Part). PairAnswers c.args.valid.now.view c.args.self.now c.args.component c.args.replica p (Ok (c.in_ok-feed.feed, c.in_ok-feed.message))) c.part.view_is c.in_ok-feed.ensures.pair)
      (subst (λ (p : Part). StandsAt c.args.valid.now.view (instance_for c.args.valid.now.view c.args.component c.args.replica) (read_lists c.args.self.now.lists) c.in_ok-feed.feed p.sent.index (message_with_id c.args.self.now.lists.records c.in_ok-feed.message)) c.part.view_is c.in_ok-feed.ensures.index)
      c.in_ok-push.ensures.items c.in_ok-push-2.ensures.items (ap (λ (p : Part). p.sent.index) c.part.view_is);
  feeds = all_pushed (λ (pair : ℕ × Message). pair.0 < length (feeds_for c.args.valid.now.view c.args.component c.args.replica)) c.loop-part.pairs.items c.push.new.self.items (c.in_ok-feed.feed, c.in_ok-feed.message) c.in_ok-push.ensures.items c.loop-part.invariant.feeds c.in_ok-feed.ensures.feed;
  given = all_pushed (λ (pair : ℕ × Message). IsGiven c.args.self.now.lists.records pair.1) c.loop-part.pairs.items c.push.new.self.items (c.in_ok-feed.feed, c.in_ok-feed.message) c.in_ok-push.ensures.items c.loop-part.invariant.given c.in_ok-feed.ensures.given;
}

pub returns-clause-pairs : goal.returns-clause-pairs
returns-clause-pairs c = (all_so_far c.args.valid.now.view c.args.self.now c.args.component c.args.replica c.args.parts.now c.loop-part.part-index c.loop-part.pairs.items c.loop-part.indexes.items c.loop-part-test.false c.loop-part.invariant.so_far).are
