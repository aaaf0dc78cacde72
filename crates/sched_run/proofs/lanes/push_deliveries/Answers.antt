use Rattle.std.proofs.Common.{◌≡◌, ◌∙◌, ◌++◌, ◌+◌, ◌∷◌, ℕ, true, false, [], map, take, sym, ap, arith}
use Rattle.topo_forms.specs.Feeds.{Feed}
use Rattle.sched_net.proofs.LeftSeen.{few_found, few_ports, feeds_found}
use Rattle.sched_run.specs.Made.{comes_at, feeds_here}
use Rattle.sched_run.specs.declared.lanes.Lane.{Lane}
use Rattle.sched_run.specs.declared.lanes.Lane.TheVariants.{Deliver}
use Rattle.sched_run.proofs.LanesLemmas.{all_here, behind_more, behind_same, here_more, instance_end}
use Rattle.sched_run.proofs.lanes.push_deliveries.Goals as goal
use Rattle.sched_run.proofs.lanes.push_deliveries.Goals.{then-comes_at+in_ok-push, else-comes_at}

pub loop-number-preserved : goal.loop-number-preserved
loop-number-preserved c =
    let make : ℕ × Feed → Lane = λ place. Deliver c.args.component c.args.replica place.0 place.1 in
    let feeds = c.as_slice-feeds.result.now in
    let s = c.args.stream in
    let p = c.args.port in
    let i = c.loop-number.number in
    let before = map make (feeds_here s p (take i feeds)) in
    let after = map make (feeds_here s p (take (i + 1) feeds)) in
    let own : c.comes_at.result ≡ comes_at s p c.index-feeds-number.result = c.comes_at.ensures in
    elim c.if-comes_at.branch [
      | then-comes_at+in_ok-push w ↦
          behind_more c.args.into.now.items before (make (i, c.index-feeds-number.result) ∷ []) after c.loop-number.into.items c.if-comes_at.into.items c.loop-number.invariant (ap (λ z. z.items) w.into-is ∙ w.in_ok-push.ensures.items)
          (here_more make s p feeds i c.index-feeds-number.result true c.loop-number-test.true c.index-feeds-number.is (sym own ∙ w.if-comes_at.true))
      | else-comes_at w ↦
          ap (λ z. z.items) w.into-is
          ∙ behind_same c.args.into.now.items before after c.loop-number.into.items c.loop-number.invariant
          (here_more make s p feeds i c.index-feeds-number.result false c.loop-number-test.true c.index-feeds-number.is (sym own ∙ w.if-comes_at.false))
    ]

pub overflow_cast-number : goal.overflow_cast-number
overflow_cast-number c =
    let v = c.args.valid.now.view in
    let few = few_found v c.requires.runs.given c.requires.runs.steps c.args.books.now c.requires.runs.stand c.known.ensures c.args.component c.args.replica c.seat_at.result.now c.as_slice-feeds.result.now c.requires.component c.requires.replica
    (few_ports c.args.valid.now c.whole.ensures c.args.component c.requires.component) c.seat_at.ensures c.as_slice-feeds.ensures in
    omega (arith, few, c.loop-number-test.true)

pub returns : goal.returns
returns c =
    let v = c.args.valid.now.view in
    c.loop-number.invariant
    ∙ ap (λ l. c.args.into.now.items ++ l)
    (all_here (λ place. Deliver c.args.component c.args.replica place.0 place.1) c.args.stream c.args.port c.as_slice-feeds.result.now c.loop-number.number c.loop-number-test.false
    ∙ instance_end v c.args.stream c.args.component c.args.port c.args.replica c.as_slice-feeds.result.now c.requires.component c.requires.replica
    (feeds_found v c.requires.runs.given c.requires.runs.steps c.args.books.now c.requires.runs.stand c.args.component c.args.replica c.seat_at.result.now c.as_slice-feeds.result.now c.requires.component c.requires.replica c.seat_at.ensures c.as_slice-feeds.ensures))
