use Rattle.bloom_index.proofs.HeadTurns.{Bodies, bag_before, head_turned, head_turn_over, head_turn_refused}
use Rattle.bloom_index.proofs.heads.turn_head.Goals as goal

pub returns-in_err-parts : goal.returns-in_err-parts
returns-in_err-parts c = λ can given all last.
    head_turn_refused can.rules c.args.head c.args.plans.now.items c.args.held.now can.ready c.args.bag.now c.head_parts.new.plans.items c.head_parts.new.plans.items c.from_residual.result c.in_err-parts.field-0.0 c.from_residual.ensures.1 (c.in_err-parts.ensures can)

pub returns-in_err-turn : goal.returns-in_err-turn
returns-in_err-turn c = λ can given all last.
    let rules = can.rules in
    let ready = can.ready in
    let head = c.args.head in
    let first = c.args.plans.now.items in
    let held = c.args.held.now in
    let made = c.in_ok-parts.ensures can in
    head_turn_over rules head first held ready all last c.turn_bodies.new.bag c.head_parts.new.plans.items c.from_residual-in_err-turn.result c.in_err-turn.field-0.0 c.from_residual-in_err-turn.ensures.1
    (c.in_err-turn.ensures.rows (Bodies rules head first held ready) made.0 (bag_before rules head first held ready all last c.args.bag.now given))

pub returns : goal.returns
returns c = λ can given all last.
    let rules = can.rules in
    let ready = can.ready in
    let head = c.args.head in
    let first = c.args.plans.now.items in
    let held = c.args.held.now in
    let made = c.in_ok-parts.ensures can in
    head_turned rules head first held ready all last c.in_ok-parts.parts c.args.bag.now c.turn_bodies.new.bag c.in_ok-turn.turn c.turned.result c.head_parts.new.plans.items c.turned.ensures.kept c.turned.ensures.rows c.turned.ensures.gone made given
    (c.in_ok-turn.ensures.rows (Bodies rules head first held ready) made.0 (bag_before rules head first held ready all last c.args.bag.now given)) (c.in_ok-turn.ensures.bag (Bodies rules head first held ready) made.0)
