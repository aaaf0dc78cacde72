use Rattle.std.proofs.Common.{◌≡◌, ◌∙◌, ◌++◌, ◌+◌, ◌∷◌, ℕ, true, false, [], map, take, sym, ap, arith}
use Rattle.topo_forms.specs.Feeds.{Feed}
use Rattle.sched_net.proofs.LeftSeen.{feeds_found}
use Rattle.sched_run.specs.Made.{comes_at, feeds_here}
use Rattle.sched_run.specs.declared.lanes.Lane.{Lane}
use Rattle.sched_run.specs.declared.lanes.Lane.TheVariants.{Order}
use Rattle.sched_run.proofs.LanesLemmas.{all_here, behind_more, behind_same, here_more, log_end}
use Rattle.sched_run.proofs.lanes.push_orders.Goals as goal
use Rattle.sched_run.proofs.lanes.push_orders.Goals.{then-comes_at+in_ok-push, else-comes_at}

pub loop-feed-preserved : goal.loop-feed-preserved
loop-feed-preserved c =
    let make : ℕ × Feed → Lane = λ place. Order c.args.component place.1 in
    let feeds = c.as_slice-feeds.result.now in
    let s = c.args.stream in
    let p = c.args.port in
    let i = c.loop-feed.feed-index in
    let before = map make (feeds_here s p (take i feeds)) in
    let after = map make (feeds_here s p (take (i + 1) feeds)) in
    let own : c.comes_at.result ≡ comes_at s p c.feed-item.result = c.comes_at.ensures in
    elim c.if-comes_at.branch [
      | then-comes_at+in_ok-push w ↦
          behind_more c.args.into.now.items before (make (i, c.feed-item.result) ∷ []) after c.loop-feed.into.items c.if-comes_at.into.items c.loop-feed.invariant (ap (λ z. z.items) w.into-is ∙ w.in_ok-push.ensures.items)
          (here_more make s p feeds i c.feed-item.result true c.loop-feed-test.true c.feed-item.is (sym own ∙ w.if-comes_at.true))
      | else-comes_at w ↦
          ap (λ z. z.items) w.into-is
          ∙ behind_same c.args.into.now.items before after c.loop-feed.into.items c.loop-feed.invariant
          (here_more make s p feeds i c.feed-item.result false c.loop-feed-test.true c.feed-item.is (sym own ∙ w.if-comes_at.false))
    ]

pub returns : goal.returns
returns c =
    let v = c.args.valid.now.view in
    c.loop-feed.invariant
    ∙ ap (λ l. c.args.into.now.items ++ l)
    (all_here (λ place. Order c.args.component place.1) c.args.stream c.args.port c.as_slice-feeds.result.now c.loop-feed.feed-index c.loop-feed-test.false
    ∙ log_end v c.args.stream c.args.component c.args.port c.as_slice-feeds.result.now c.known.ensures c.requires.component
    (feeds_found v c.requires.runs.given c.requires.runs.steps c.args.books.now c.requires.runs.stand c.args.component 0 c.seat_at.result.now c.as_slice-feeds.result.now c.requires.component (omega (arith, (c.known.ensures.components c.args.component c.requires.component).some_replica)) c.seat_at.ensures c.as_slice-feeds.ensures))
