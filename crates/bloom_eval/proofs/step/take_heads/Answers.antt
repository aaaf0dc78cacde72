use Rattle.std.proofs.Common.{◌+◌, ◌∷◌, List, ℕ, drop, get_or, sym, subst, arith}
use Rattle.std.proofs.lemmas.List.{length-map, drop_more, drop_all}
use Rattle.bloom_eval.specs.Code.Held.{rows_in, sets_in}
use Rattle.bloom_eval.specs.Taken.{TakesHeads}
use Rattle.blz_set.proofs.Unions.{handed_on}
use Rattle.bloom_eval.proofs.Widths.{length-sets_of_all}
use Rattle.bloom_eval.proofs.Taking.{IsAt, at_first, head_within, at_next, at_refused, at_last}
use Rattle.bloom_eval.proofs.step.take_heads.Goals as goal

pub loop-head-init : goal.loop-head-init
loop-head-init c =
    let a = c.args.program.now in
    let start = sets_in c.args.held.now.items in
    subst (λ (heads : List ℕ). IsAt a start start heads) (sym c.requires.heads) (at_first a start c.requires.runnable c.requires.begun)

pub take_head-requires-clause-within : goal.take_head-requires-clause-within
take_head-requires-clause-within c =
    let a = c.args.program.now in
    let heads = c.args.heads.now in
    let i = c.loop-head.head-index in
    let start = sets_in c.args.held.now.items in
    let sets = sets_in c.loop-head.held.items in
    let at : IsAt a start sets (get_or heads i 0 ∷ drop (i + 1) heads) = subst (IsAt a start sets) (drop_more heads i 0 c.loop-head-test.true) c.loop-head.invariant in
    omega (arith, head_within a c.requires.runnable start sets (get_or heads i 0) (drop (i + 1) heads) at, length-sets_of_all a.form.collections sets c.loop-head.invariant.wide, length-map c.loop-head.held.items rows_in)

pub returns-in_err-take_head-clause-taken : goal.returns-in_err-take_head-clause-taken
returns-in_err-take_head-clause-taken c =
    let a = c.args.program.now in
    let heads = c.args.heads.now in
    let i = c.loop-head.head-index in
    let start = sets_in c.args.held.now.items in
    let sets = sets_in c.loop-head.held.items in
    let new = sets_in c.take_head.new.held.items in
    let at : IsAt a start sets (get_or heads i 0 ∷ drop (i + 1) heads) = subst (IsAt a start sets) (drop_more heads i 0 c.loop-head-test.true) c.loop-head.invariant in
    let fault = c.in_err-take_head.field-0.0 in
    subst (TakesHeads a start new) (sym (handed_on _ c.from_residual.result fault c.from_residual.ensures.1))
    (at_refused a c.requires.runnable start sets (get_or heads i 0) (drop (i + 1) heads) at (Unit {0}) (Unit {0}) new new fault c.in_err-take_head.ensures)

pub loop-head-preserved : goal.loop-head-preserved
loop-head-preserved c =
    let a = c.args.program.now in
    let heads = c.args.heads.now in
    let i = c.loop-head.head-index in
    let start = sets_in c.args.held.now.items in
    let sets = sets_in c.loop-head.held.items in
    let new = sets_in c.take_head.new.held.items in
    let at : IsAt a start sets (get_or heads i 0 ∷ drop (i + 1) heads) = subst (IsAt a start sets) (drop_more heads i 0 c.loop-head-test.true) c.loop-head.invariant in
    at_next a c.requires.runnable start sets (get_or heads i 0) (drop (i + 1) heads) at (Unit {0}) new (tt {0}) c.in_ok-take_head.ensures

pub returns-clause-taken : goal.returns-clause-taken
returns-clause-taken c =
    let a = c.args.program.now in
    let start = sets_in c.args.held.now.items in
    let sets = sets_in c.loop-head.held.items in
    at_last (Unit {0}) a start sets c.requires.runnable (subst (IsAt a start sets) (drop_all c.loop-head.head-index c.args.heads.now (omega (arith, c.loop-head-test.false))) c.loop-head.invariant) (tt {0})
