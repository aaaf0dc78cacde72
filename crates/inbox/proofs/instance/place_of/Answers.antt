use Rattle.std.proofs.Common.{sym, arith, get_or}
use Rattle.std.proofs.lemmas.Bool.{eq-eqb}
use Rattle.inbox.proofs.Keeping.Loops.{place_found, place_missing}
use Rattle.inbox.proofs.instance.place_of.Goals as goal

pub returns-then-columns-place : goal.returns-then-columns-place
returns-then-columns-place c = sym (place_found c.args.attribute c.args.columns.now c.loop-place.place c.loop-place-test.true c.loop-place.invariant (eq-eqb (get_or c.args.columns.now c.loop-place.place 0) c.args.attribute c.if-columns-place.true))

pub returns : goal.returns
returns c = sym (place_missing c.args.attribute c.args.columns.now (λ k less. c.loop-place.invariant k (omega (arith, less, c.loop-place-test.false))))
