use Rattle.std.proofs.Common.{◌≡◌, ◌≤◌, ◌-◌, sym, subst, refl, length, get_or, arith}
use Rattle.std.proofs.lemmas.Option.{slice_get_read}
use Rattle.sched_run.specs.Code.Looking.{IsLane, IsTaker}
use Rattle.sched_run.proofs.LanesThere.{lanes_there, takers_there}
use Rattle.sched_run.proofs.WorksLemmas.{index_within, lane_chosen, taker_within, taker_read, taker_chosen}
use Rattle.sched_run.proofs.works.Works.find.Goals as goal

pub bounds-places-rest : goal.bounds-places-rest
bounds-places-rest c =
    index_within c.args.valid.now.view c.args._books.now c.args.self.now c.requires.works c.requires.shown c.args.number c.place_of-place.result.0 c.place_of-place.result.1 c.place_of-place.ensures
    c.index.result.now c.places.result.now (omega (arith, c.if-place-len.true, c.len.ensures)) c.index.ensures c.places.ensures c.requires.runs

pub returns-then-place-len-clause-place : goal.returns-then-place-len-clause-place
returns-then-place-len-clause-place c =
    let lanes = c.args.self.now.lanes.items in
    slice_get_read lanes (length lanes) c.place_of-place.result.0 c.index-then-place-len.result.now refl (omega (arith, c.if-place-len.true, c.len.ensures)) c.index-then-place-len.ensures

pub returns-then-place-len-clause-numbered : goal.returns-then-place-len-clause-numbered
returns-then-place-len-clause-numbered c =
    let lanes = c.args.self.now.lanes.items in
    lane_chosen c.args.valid.now.view c.args._books.now c.args.self.now c.requires.works c.requires.shown c.args.number c.place_of-place.result.0 c.place_of-place.result.1 c.place_of-place.ensures
    c.index.result.now c.places.result.now (omega (arith, c.if-place-len.true, c.len.ensures)) c.index.ensures c.places.ensures c.requires.runs c.index-then-place-len.result.now
    (slice_get_read lanes (length lanes) c.place_of-place.result.0 c.index-then-place-len.result.now refl (omega (arith, c.if-place-len.true, c.len.ensures)) c.index-then-place-len.ensures)

pub returns-then-place-len-clause-names : goal.returns-then-place-len-clause-names
returns-then-place-len-clause-names c =
    subst (IsLane c.args.valid.now.view) (sym c.index-then-place-len.ensures)
    (lanes_there c.args.valid.now.view c.args.self.now.lanes.items c.known.ensures c.requires.works.lanes_are c.place_of-place.result.0 c.index-then-place-len.result.now (omega (arith, c.if-place-len.true, c.len.ensures)))

pub returns-else-place-len-clause-place : goal.returns-else-place-len-clause-place
returns-else-place-len-clause-place c =
    let k = c.args.self.now in
    let past : length k.lanes.items ≤ c.place_of-place.result.0 = omega (arith, c.if-place-len.false, c.len.ensures) in
    let e : c.len-else-place-len.result ≡ length k.lanes.items = omega (arith, c.len-else-place-len.ensures) in
    let taker = c.index-else-place-len.result.now in (
      c.place_of-place.result.0 - length k.lanes.items,
      (omega (arith, past)),
      taker_read c.args.valid.now.view c.args._books.now k c.requires.works c.requires.shown c.args.number c.place_of-place.result.0 c.place_of-place.result.1 c.place_of-place.ensures taker past
          (subst (λ n. taker ≡ get_or k.takers.items (c.place_of-place.result.0 - n) taker) e c.index-else-place-len.ensures),
    )

pub returns-else-place-len-clause-numbered : goal.returns-else-place-len-clause-numbered
returns-else-place-len-clause-numbered c =
    let k = c.args.self.now in
    let past : length k.lanes.items ≤ c.place_of-place.result.0 = omega (arith, c.if-place-len.false, c.len.ensures) in
    let e : c.len-else-place-len.result ≡ length k.lanes.items = omega (arith, c.len-else-place-len.ensures) in
    let taker = c.index-else-place-len.result.now in
    taker_chosen c.args.valid.now.view c.args._books.now k c.requires.works c.requires.shown c.args.number c.place_of-place.result.0 c.place_of-place.result.1 c.place_of-place.ensures taker past
    (taker_read c.args.valid.now.view c.args._books.now k c.requires.works c.requires.shown c.args.number c.place_of-place.result.0 c.place_of-place.result.1 c.place_of-place.ensures taker past
    (subst (λ n. taker ≡ get_or k.takers.items (c.place_of-place.result.0 - n) taker) e c.index-else-place-len.ensures))

pub returns-else-place-len-clause-names : goal.returns-else-place-len-clause-names
returns-else-place-len-clause-names c =
    let k = c.args.self.now in
    let past : length k.lanes.items ≤ c.place_of-place.result.0 = omega (arith, c.if-place-len.false, c.len.ensures) in
    let e : c.len-else-place-len.result ≡ length k.lanes.items = omega (arith, c.len-else-place-len.ensures) in
    let taker = c.index-else-place-len.result.now in
    let at : taker ≡ get_or k.takers.items (c.place_of-place.result.0 - length k.lanes.items) taker = subst (λ n. taker ≡ get_or k.takers.items (c.place_of-place.result.0 - n) taker) e c.index-else-place-len.ensures in
    subst (IsTaker c.args.valid.now.view) (sym at)
    (takers_there c.args.valid.now.view k.takers.items c.known.ensures c.requires.works.takers_are (c.place_of-place.result.0 - length k.lanes.items) taker
    (taker_within c.args.valid.now.view c.args._books.now k c.requires.works c.requires.shown c.args.number c.place_of-place.result.0 c.place_of-place.result.1 c.place_of-place.ensures past))
