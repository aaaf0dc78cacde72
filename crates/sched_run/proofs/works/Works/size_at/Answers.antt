use Rattle.std.proofs.Common.{◌≡◌, ◌≤◌, ◌∙◌, ◌-◌, ap, refl, sym, subst, length, get_or, arith}
use Rattle.std.proofs.lemmas.List.{get_or-set_same}
use Rattle.std.proofs.lemmas.Option.{slice_get_read}
use Rattle.sched_turns.specs.Windows.{Looked}
use Rattle.sched_run.specs.Code.Looking.{IsLane, IsTaker, MayLook}
use Rattle.sched_run.specs.Code.Stale.{stale_on}
use Rattle.sched_run.proofs.LanesThere.{lanes_there, takers_there}
use Rattle.sched_run.proofs.WorksLemmas.{window_read_at, looks_lane, looks_taker}
use Rattle.sched_run.proofs.works.Works.size_at.Goals as goal

pub look-requires-clause-lane : goal.look-requires-clause-lane
look-requires-clause-lane c =
    subst (IsLane c.args.valid.now.view) (sym c.index.ensures)
    (lanes_there c.args.valid.now.view c.args.self.now.lanes.items c.known.ensures c.requires.works.lanes_are c.args.place c.index.result.now (omega (arith, c.if-place-len.true, c.len.ensures)))

pub look-requires-clause-window : goal.look-requires-clause-window
look-requires-clause-window c =
    let k = c.args.self.now in
    let within = c.requires.works.many in
    let may = MayLook c.args.valid.now.view c.args.books.now c.index.result.now in
    subst (λ stale. may stale c.index_mut.result.now) (sym c.stale_on.ensures)
    (subst (may (stale_on c.args.work.now c.index.result.now)) (window_read_at k c.args.place c.index_mut.result.now (omega (arith, c.if-place-len.true, c.len.ensures, within)) c.index_mut.ensures.value)
    (c.requires.may c.index.result.now (slice_get_read k.lanes.items (length k.lanes.items) c.args.place c.index.result.now refl (omega (arith, c.if-place-len.true, c.len.ensures)) c.index.ensures)))

pub can_take-requires-clause-taker : goal.can_take-requires-clause-taker
can_take-requires-clause-taker c =
    let k = c.args.self.now in
    let past : length k.lanes.items ≤ c.args.place = omega (arith, c.if-place-len.false, c.len.ensures) in
    let e : c.len-else-place-len.result ≡ length k.lanes.items = omega (arith, c.len-else-place-len.ensures) in
    let taker = c.index-taker.result.now in
    let at : taker ≡ get_or k.takers.items (c.args.place - length k.lanes.items) taker = subst (λ n. taker ≡ get_or k.takers.items (c.args.place - n) taker) e c.index-taker.ensures in
    subst (IsTaker c.args.valid.now.view) (sym at)
    (takers_there c.args.valid.now.view k.takers.items c.known.ensures c.requires.works.takers_are (c.args.place - length k.lanes.items) taker (omega (arith, past, c.requires.place, c.requires.works.as_many)))

pub returns-in_ok-look : goal.returns-in_ok-look
returns-in_ok-look c =
    let k = c.args.self.now in
    let within = c.requires.works.many in
    let window : Looked = c.look.new.window in
    let read : c.index-then-place-len.result.now ≡ window = c.index-then-place-len.ensures ∙ get_or-set_same k.windows.items c.args.place window c.index-then-place-len.result.now (omega (arith, c.if-place-len.true, c.len.ensures, within)) in
    looks_lane c.args.valid.now.view c.args.books.now k _ c.args.place (length c.places.result.now) c.requires.works refl refl refl c.requires.runs c.index.result.now window
    (omega (arith, c.if-place-len.true, c.len.ensures)) refl
    (slice_get_read k.lanes.items (length k.lanes.items) c.args.place c.index.result.now refl (omega (arith, c.if-place-len.true, c.len.ensures)) c.index.ensures)
    c.in_ok-look.ensures (ap length c.places.ensures ∙ ap (λ (w : Looked). length w.places) read)

pub returns-else-place-len : goal.returns-else-place-len
returns-else-place-len c =
    let k = c.args.self.now in
    let past : length k.lanes.items ≤ c.args.place = omega (arith, c.if-place-len.false, c.len.ensures) in
    let e : c.len-else-place-len.result ≡ length k.lanes.items = omega (arith, c.len-else-place-len.ensures) in
    let taker = c.index-taker.result.now in
    let at : taker ≡ get_or k.takers.items (c.args.place - length k.lanes.items) taker = subst (λ n. taker ≡ get_or k.takers.items (c.args.place - n) taker) e c.index-taker.ensures in
    looks_taker c.args.valid.now.view c.args.books.now k _ c.args.place c.from.result c.requires.works refl refl refl taker c.can_take.result past refl
    (slice_get_read k.takers.items (length k.takers.items) (c.args.place - length k.lanes.items) taker refl (omega (arith, past, c.requires.place, c.requires.works.as_many)) at)
    c.can_take.ensures c.from.ensures
