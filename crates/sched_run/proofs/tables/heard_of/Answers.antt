use Rattle.std.proofs.Common.{◌≡◌, ◌<◌, ◌+◌, ◌++◌, ◌∷◌, ◌∙◌, ℕ, List, [], length, ap, get_or, set, refl, sym, subst, arith}
use Rattle.std.proofs.lemmas.List.{get_or_default}
use Rattle.std.proofs.lemmas.Option.{slice_get_read}
use Rattle.topo_forms.specs.Feeds.{Feed}
use Rattle.inbox.specs.Places.{instance_count}
use Rattle.sched_run.specs.Code.Looking.{IsLane}
use Rattle.sched_run.specs.Code.Watch.{AreHeardBelow}
use Rattle.sched_run.proofs.TablesLemmas.{heard_none, heard_more, heard_pass, instance_inside}
use Rattle.sched_run.proofs.tables.heard_of.Goals as goal
use Rattle.sched_run.proofs.tables.heard_of.Goals.{in-Deliver+in_ok-add, in_default}

pub index_mut-requires : goal.index_mut-requires
index_mut-requires c =
    let v = c.args.valid.now.view in
    let lane = c.index-lanes-place.result in
    let is : IsLane v lane = subst (IsLane v) (sym c.index-lanes-place.is) (c.requires.lanes c.loop-place.place lane c.loop-place-test.true) in
    let own = subst (IsLane v) c.in-Deliver.is is in
    let inside = instance_inside v c.in-Deliver.component c.in-Deliver.replica own.is.there own.within in
    omega (arith, inside, c.instance-instance.ensures, c.loop-place.invariant.count.instances)

pub add-requires : goal.add-requires
add-requires c =
    let v = c.args.valid.now.view in
    let lane = c.index-lanes-place.result in
    let is : IsLane v lane = subst (IsLane v) (sym c.index-lanes-place.is) (c.requires.lanes c.loop-place.place lane c.loop-place-test.true) in
    let own = subst (IsLane v) c.in-Deliver.is is in
    let inside = instance_inside v c.in-Deliver.component c.in-Deliver.replica own.is.there own.within in
    let many = c.loop-place.invariant.count.streams c.instance-instance.result (omega (arith, inside, c.instance-instance.ensures)) in
    let stream = own.is.stream in
    let same = ap (λ (f : Feed). f.stream) c.feed.view_is in
    let read = ap (λ (l : List (List ℕ)). length l) (c.index_mut.ensures.value ∙ get_or_default c.loop-place.heard.items c.instance-instance.result c.index_mut.result.now [] (omega (arith, inside, c.instance-instance.ensures, c.loop-place.invariant.count.instances))) in
    omega (arith, many, stream, same, read)

pub loop-place-preserved : goal.loop-place-preserved
loop-place-preserved c =
    let v = c.args.valid.now.view in
    let lanes = c.args.lanes.now in
    let i = c.loop-place.place in
    let lane = c.index-lanes-place.result in
    let at = slice_get_read lanes (length lanes) i lane refl c.loop-place-test.true c.index-lanes-place.is in
    let is : IsLane v lane = subst (IsLane v) (sym c.index-lanes-place.is) (c.requires.lanes i lane c.loop-place-test.true) in
    elim c.match-lane.branch [
      | in-Deliver+in_ok-add w ↦
          let old = c.loop-place.heard.items in
          let instance = w.instance-instance.result in
          let own = subst (IsLane v) w.in-Deliver.is is in
          let there = instance_inside v w.in-Deliver.component w.in-Deliver.replica own.is.there own.within in
          let inside : instance < instance_count v = omega (arith, there, w.instance-instance.ensures) in
          let read = w.index_mut.ensures.value ∙ get_or_default old instance w.index_mut.result.now [] (omega (arith, inside, c.loop-place.invariant.count.instances)) in
          let stream = ap (λ (f : Feed). f.stream) w.feed.view_is in
          let added = w.in_ok-add.ensures
          ∙ ap (λ (l : List (List ℕ)). set l w.feed.inside.stream (get_or l w.feed.inside.stream [] ++ i ∷ [])) read
          ∙ ap (λ n. set (get_or old instance []) n (get_or (get_or old instance []) n [] ++ i ∷ [])) stream in
          heard_more v lanes i old c.loop-place.invariant lane at w.in-Deliver.component w.in-Deliver.replica w.in-Deliver.number w.in-Deliver.feed w.in-Deliver.is instance w.instance-instance.ensures inside own.is.stream w.add.new.self
          c.match-lane.heard.items added (ap (λ z. z.items) w.heard-is)
      | in_default w ↦ subst (AreHeardBelow v lanes (i + 1)) (sym (ap (λ z. z.items) w.heard-is)) (heard_pass v lanes i c.loop-place.heard.items c.loop-place.invariant lane at _ _ w.in_default.is)
    ]

pub returns : goal.returns
returns c =
    let all : c.loop-place.place ≡ length c.args.lanes.now = omega (arith, c.loop-place-test.false, c.loop-place.auto.place-end) in
    subst (λ n. AreHeardBelow c.args.valid.now.view c.args.lanes.now n c.loop-place.heard.items) all c.loop-place.invariant

pub loop-place-init : goal.loop-place-init
loop-place-init c = heard_none c.args.valid.now.view c.args.lanes.now c.in_ok-heard.heard.items c.len.result c.stream_count-streams.result c.in_ok-heard.ensures (omega (arith, c.args.books.now.seats.ok.0, c.len.ensures, c.requires.runs.stand.instances.count)) c.stream_count-streams.ensures
