use Rattle.std.proofs.Common.{◌≡◌, ◌∙◌, List, length, sym, subst, arith}
use Rattle.bloom_parts.specs.declared.change.Change.{Change}
use Rattle.bloom_parts.specs.Bodies.{BodiesTurn}
use Rattle.bloom_parts.proofs.BodiesLemmas.{one_turns, many_bodies}
use Rattle.bloom_parts.proofs.bags.turn_bodies.Goals as goal

pub returns-then-len-eq1-clause-bag : goal.returns-then-len-eq1-clause-bag
returns-then-len-eq1-clause-bag c = λ bodies t several is.
    let one : length c.args.changes.items ≡ 1 = omega (arith, c.len.ensures, c.if-len-eq1.true) in
    absurd (several (many_bodies bodies c.args.changes.items t ∙ one))

pub returns-then-len-eq1-clause-rows : goal.returns-then-len-eq1-clause-rows
returns-then-len-eq1-clause-rows c = λ bodies t is.
    let one : length c.args.changes.items ≡ 1 = omega (arith, c.len.ensures, c.if-len-eq1.true) in
    one_turns bodies c.args.changes.items c.swap_remove-change.result c.in_ok-into_turn.field-0 t one c.swap_remove-change.ensures.value c.in_ok-into_turn.ensures.more c.in_ok-into_turn.ensures.gone

pub returns-clause-rows : goal.returns-clause-rows
returns-clause-rows c = λ bodies t is.
    let several : ¬ (length bodies ≡ 1) = λ one. let only : c.len.result ≡ 1 = omega (arith, c.len.ensures, many_bodies bodies c.args.changes.items t, one) in c.if-len-eq1.false only in
    c.turn_bag.ensures.rows bodies (subst (λ (l : List Change). BodiesTurn bodies l) (sym c.deref.ensures.value) t) (is several)
