use Rattle.std.proofs.Common.{get_or, sym, subst, take, arith}
use Rattle.std.proofs.lemmas.List.{take_all, take_more}
use Rattle.sched_run.specs.Code.Works.{LookedFor}
use Rattle.sched_run.proofs.WorksLemmas.{looked_for_more, looked_for_none, sizes_stay_many, still_may}
use Rattle.sched_run.proofs.works.Works.look_at.Goals as goal

pub loop-place-init : goal.loop-place-init
loop-place-init c = looked_for_none c.args.valid.now.view c.args.books.now c.args.self.now c.requires.works

pub look-requires-clause-place : goal.look-requires-clause-place
look-requires-clause-place c =
    let many = sizes_stay_many c.args.valid.now.view c.args.self.now c.loop-place.self c.requires.works c.loop-place.invariant.works in
    let there = c.requires.there c.loop-place.place-index 0 c.loop-place-test.true in
    omega (arith, many, there)

pub look-requires-clause-may : goal.look-requires-clause-may
look-requires-clause-may c =
    still_may c.args.valid.now.view c.args.books.now c.args.self.now c.loop-place.self c.args.work.now (take c.loop-place.place-index c.args.places.now) c.requires.runs c.loop-place.invariant c.requires.may _

pub loop-place-preserved : goal.loop-place-preserved
loop-place-preserved c =
    let many = sizes_stay_many c.args.valid.now.view c.args.self.now c.loop-place.self c.requires.works c.loop-place.invariant.works in
    let there = c.requires.there c.loop-place.place-index 0 c.loop-place-test.true in
    subst (LookedFor c.args.valid.now.view c.args.books.now c.args.self.now c.look.new.self) (sym (take_more c.args.places.now c.loop-place.place-index 0 c.loop-place-test.true))
    (looked_for_more c.args.valid.now.view c.args.books.now c.args.self.now c.loop-place.self c.look.new.self (take c.loop-place.place-index c.args.places.now) (get_or c.args.places.now c.loop-place.place-index 0) c.requires.runs c.loop-place.invariant c.in_ok-look.ensures.works c.in_ok-look.ensures.looked (omega (arith, many, there)))

pub returns : goal.returns
returns c = subst (LookedFor c.args.valid.now.view c.args.books.now c.args.self.now c.loop-place.self) (take_all c.loop-place.place-index c.args.places.now c.loop-place-test.false) c.loop-place.invariant
