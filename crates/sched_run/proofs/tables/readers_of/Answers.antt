use Rattle.std.proofs.Common.{◌≡◌, ◌+◌, ◌∙◌, length, ap, refl, sym, subst, arith}
use Rattle.std.proofs.lemmas.Option.{slice_get_read}
use Rattle.topo_forms.specs.Feeds.{Feed}
use Rattle.topo_forms.specs.View.{origin_of}
use Rattle.inbox.specs.Places.{instance_place}
use Rattle.sched_run.specs.Code.Looking.{IsLane}
use Rattle.sched_run.specs.Code.Watch.{AreReadersBelow}
use Rattle.sched_run.proofs.TablesLemmas.{readers_none, readers_more, readers_pass, sender_inside}
use Rattle.sched_run.proofs.tables.readers_of.Goals as goal
use Rattle.sched_run.proofs.tables.readers_of.Goals.{in-Some+in_ok-add, in_default}

pub add-requires : goal.add-requires
add-requires c =
    let v = c.args.valid.now.view in
    let lane = c.index-lanes-place.result in
    let is : IsLane v lane = subst (IsLane v) (sym c.index-lanes-place.is) (c.requires.lanes c.loop-place.place lane c.loop-place-test.true) in
    let feed = c.feed.view_is ∙ c.feed-feed.ensures in
    let origin = ap (λ (f : Feed). origin_of v f.stream) (sym feed) ∙ sym c.origin.ensures ∙ c.in-Some.is in
    let inside = sender_inside v lane c.in-Some.component c.in-Some.field-0-1 c.known.ensures is origin in
    let place = c.instance-number.ensures ∙ ap (λ (f : Feed). instance_place v c.in-Some.component f.sender) feed in
    omega (arith, inside, place, c.loop-place.invariant.count)

pub loop-place-preserved : goal.loop-place-preserved
loop-place-preserved c =
    let v = c.args.valid.now.view in
    let lanes = c.args.lanes.now in
    let i = c.loop-place.place in
    let lane = c.index-lanes-place.result in
    let at = slice_get_read lanes (length lanes) i lane refl c.loop-place-test.true c.index-lanes-place.is in
    let is : IsLane v lane = subst (IsLane v) (sym c.index-lanes-place.is) (c.requires.lanes i lane c.loop-place-test.true) in
    let feed = c.feed.view_is ∙ c.feed-feed.ensures in
    let origin = ap (λ (f : Feed). origin_of v f.stream) (sym feed) ∙ sym c.origin.ensures in
    elim c.match-origin.branch [
      | in-Some+in_ok-add w ↦
          let own = origin ∙ w.in-Some.is in
          let place = w.instance-number.ensures ∙ ap (λ (f : Feed). instance_place v w.in-Some.component f.sender) feed in
          let inside = sender_inside v lane w.in-Some.component w.in-Some.field-0-1 c.known.ensures is own in
          readers_more v lanes i c.loop-place.readers c.loop-place.invariant lane at w.in-Some.component w.in-Some.field-0-1 w.instance-number.result c.match-origin.readers own place
          (omega (arith, inside, place, c.loop-place.invariant.count)) (w.readers-is ∙ w.in_ok-add.ensures)
      | in_default w ↦ subst (AreReadersBelow v lanes (i + 1)) (sym w.readers-is) (readers_pass v lanes i c.loop-place.readers c.loop-place.invariant lane at (origin ∙ w.in_default.is))
    ]

pub returns : goal.returns
returns c =
    let all : c.loop-place.place ≡ length c.args.lanes.now = omega (arith, c.loop-place-test.false, c.loop-place.auto.place-end) in
    subst (λ n. AreReadersBelow c.args.valid.now.view c.args.lanes.now n c.loop-place.readers) all c.loop-place.invariant

pub loop-place-init : goal.loop-place-init
loop-place-init c = readers_none c.args.valid.now.view c.args.lanes.now c.in_ok-readers.readers c.len.result c.in_ok-readers.ensures (omega (arith, c.args.books.now.seats.ok.0, c.len.ensures, c.requires.runs.stand.instances.count))
