use Rattle.std.proofs.Common.{sym, subst, rules}
use Rattle.blz_set.proofs.Unions.{handed_on}
use Rattle.bloom_growth.specs.Code.Sides.{AddsSetAt}
use Rattle.bloom_growth.proofs.MergedLemmas.{set_added, set_refused}
use Rattle.bloom_growth.proofs.side.add_set_at.Goals as goal

pub returns-in_ok-take_in-in-Some : goal.returns-in_ok-take_in-in-Some
returns-in_ok-take_in-in-Some c =
    let set = c.in-Some.there.now in
    let next = c.take_in.new.self in
    set_added c.args.key.now c.args.set c.args.sets.now (c.get_mut.follows.lender next) set next c.in-Some.ensures.value ((c.get_mut.follows.holds next).3 (search rules)).0 c.in_ok-take_in-in-Some.ensures.0

pub returns-in_err-take_in-in-Some : goal.returns-in_err-take_in-in-Some
returns-in_err-take_in-in-Some c =
    let set = c.in-Some.there.now in
    let new = c.take_in.new.self in
    let fault = c.in_err-take_in-in-Some.field-0.0 in
    subst (AddsSetAt c.args.key.now c.args.set c.args.sets.now (c.get_mut.follows.lender new)) (sym (handed_on _ c.from_residual.result fault c.from_residual.ensures.1))
    (set_refused c.args.key.now c.args.set set new c.args.sets.now (c.get_mut.follows.lender new) fault c.in-Some.ensures.value c.in_err-take_in-in-Some.ensures)
