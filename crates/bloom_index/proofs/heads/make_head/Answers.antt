use Rattle.std.proofs.Common.{◌≡◌, ◌∙◌, List, Ok, length, sym, subst, vec_len, arith}
use Rattle.std.proofs.lemmas.Bool.{eqb-true}
use Rattle.blz_value.specs.Record.{Row}
use Rattle.bloom_parts.specs.declared.change.Change.{Change}
use Rattle.bloom_parts.specs.Bodies.{BodiesTurn, news_of, AddsGiven}
use Rattle.bloom_index.proofs.HeadTurns.{Bodies, bag_standing, more_within, head_made, head_passing, head_make_refused, head_kept_over, head_made_over}
use Rattle.bloom_index.proofs.heads.make_head.Goals as goal

pub returns-in_err-parts : goal.returns-in_err-parts
returns-in_err-parts c = λ can given momentary.
    head_make_refused can.rules c.args.head c.args.plans.now.items c.args.held.now can.ready c.args.whole c.args.bag.now c.head_parts.new.plans.items c.from_residual.result c.in_err-parts.field-0.0 c.from_residual.ensures.1 c.head_parts.new.plans.items (c.in_err-parts.ensures can)

pub returns-then-is_empty : goal.returns-then-is_empty
returns-then-is_empty c = λ can given momentary.
    let rules = can.rules in
    let ready = can.ready in
    let head = c.args.head in
    let first = c.args.plans.now.items in
    let held = c.args.held.now in
    let parts = c.in_ok-parts.parts in
    let no_change : vec_len parts.changes ≡ 0 = eqb-true (vec_len parts.changes) 0 (sym c.is_empty.ensures ∙ c.if-is_empty.true) in
    let none : length parts.changes.items ≡ 0 = omega (arith, no_change, parts.changes.ok.0) in
    head_passing rules head first held ready c.args.whole parts c.args.bag.now c.all.result c.head_parts.new.plans.items none c.all.ensures.kept (c.all.ensures.rows ∙ c.in_ok-lasting.ensures) c.known.ensures.small (c.in_ok-parts.ensures can)
    (bag_standing rules head first held ready c.args.bag.now momentary given)

pub returns-in_err-turn : goal.returns-in_err-turn
returns-in_err-turn c = λ can given momentary.
    let rules = can.rules in
    let ready = can.ready in
    let head = c.args.head in
    let first = c.args.plans.now.items in
    let held = c.args.held.now in
    let bodies = Bodies rules head first held ready in
    let turned = subst (λ (l : List Change). BodiesTurn bodies l) (sym c.deref.ensures.value) (c.in_ok-parts.ensures can).0 in
    head_kept_over rules head first held ready c.args.whole c.turn_bag.new.bag c.head_parts.new.plans.items c.from_residual-in_err-turn.result c.in_err-turn.field-0.0 c.from_residual-in_err-turn.ensures.1
    (c.in_err-turn.ensures.rows bodies turned (bag_standing rules head first held ready c.args.bag.now momentary given))

pub returns-in_err-set : goal.returns-in_err-set
returns-in_err-set c = λ can given momentary.
    let rules = can.rules in
    let ready = can.ready in
    let head = c.args.head in
    let first = c.args.plans.now.items in
    let held = c.args.held.now in
    let bodies = Bodies rules head first held ready in
    let made = c.in_ok-parts.ensures can in
    let turned = subst (λ (l : List Change). BodiesTurn bodies l) (sym c.deref.ensures.value) made.0 in
    let before = bag_standing rules head first held ready c.args.bag.now momentary given in
    let stands = c.in_ok-turn.ensures.bag bodies turned before in
    let within = more_within rules head first held ready c.in_ok-turn.turn (c.in_ok-turn.ensures.rows bodies turned before) in
    head_made_over rules head first held ready c.args.whole c.turn_bag.new.bag c.head_parts.new.plans.items c.from_residual-in_err-set.result c.in_err-set.field-0.0 c.from_residual-in_err-set.ensures.1 c.in_ok-into_set.field-0 c.in_ok-turn.turn.more (c.in_ok-into_set.ensures ∙ made.1)
    (c.in_err-set.ensures (news_of bodies) stands within)

pub returns : goal.returns
returns c = λ can given momentary.
    let rules = can.rules in
    let ready = can.ready in
    let head = c.args.head in
    let first = c.args.plans.now.items in
    let held = c.args.held.now in
    let bodies = Bodies rules head first held ready in
    let made = c.in_ok-parts.ensures can in
    let turned = subst (λ (l : List Change). BodiesTurn bodies l) (sym c.deref.ensures.value) made.0 in
    let before = bag_standing rules head first held ready c.args.bag.now momentary given in
    let stands = c.in_ok-turn.ensures.bag bodies turned before in
    let turns = c.in_ok-turn.ensures.rows bodies turned before in
    head_made rules head first held ready c.args.whole c.in_ok-parts.parts c.turn_bag.new.bag c.in_ok-turn.turn c.in_ok-set.set c.of_set.result c.head_parts.new.plans.items c.of_set.ensures.kept c.of_set.ensures.rows made turns stands
    (subst (λ (l : List Row). AddsGiven c.args.whole l (news_of bodies) c.in_ok-turn.turn.more (Ok c.in_ok-set.set)) c.in_ok-into_set.ensures (c.in_ok-set.ensures (news_of bodies) stands (more_within rules head first held ready c.in_ok-turn.turn turns)))
