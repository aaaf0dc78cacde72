use Rattle.std.proofs.Common.{◌≡◌, ◌≢◌, ◌<◌, ◌∙◌, Some, length, ap, refl, sym, arith}
use Rattle.std.specs.Prelude.{slice_get}
use Rattle.std.proofs.lemmas.List.{length-set}
use Rattle.bloom_parts.specs.declared.change.Rows.TheVariants.{Own}
use Rattle.bloom_index.proofs.Evaluating.{ready_here}
use Rattle.bloom_index.proofs.HeadParts.{parts_begin, parts_other, parts_own, parts_refused, parts_over, parts_end}
use Rattle.bloom_index.proofs.HeadRulesLemmas.{rule_at, can_many, can_ended, ready_at, kept_at, later_set, later_same}
use Rattle.bloom_index.proofs.heads.head_parts.Goals as goal
use Rattle.bloom_index.proofs.heads.head_parts.Goals.{then-rule-head+in_ok-change+in_ok-add_rule, else-rule-head}

pub loop-i-init : goal.loop-i-init
loop-i-init c = record {
  many = refl;
  later = λ k le. refl;
  made = λ can. parts_begin can.rules c.args.head c.args.plans.now.items c.args.held.now can.ready (record { changes = c.new.result; rows = Own c.new-2.result }) c.new.ensures.items c.new-2.ensures;
}

pub index_mut-requires : goal.index_mut-requires
index_mut-requires c = omega (arith, c.loop-i-test.true, can_many c.args.rules.now c.args.head c.args.plans.now.items c.args.held.now c.requires, c.loop-i.invariant.many)

pub evaluate-requires : goal.evaluate-requires
evaluate-requires c =
    let can = c.requires in
    let first = c.args.plans.now.items in
    let now = c.loop-i.plans.items in
    let i = c.loop-i.i in
    let plan = c.index_mut.result.now in
    let lt : i < length now = omega (arith, c.loop-i-test.true, can_many c.args.rules.now c.args.head c.args.plans.now.items c.args.held.now c.requires, c.loop-i.invariant.many) in
    let kept : slice_get first i ≡ Some plan = kept_at first now i plan c.loop-i.invariant.later lt c.index_mut.ensures.value in
    let at = rule_at can.rules c.args.rules.now can.heads i c.index-rules-i.result c.loop-i-test.true c.index-rules-i.is in
    ready_here at.rule.body plan c.args.held.now (ready_at can.rules c.args.head first c.args.held.now can.ready i at.rule plan at.within at.is kept (at.head_is ∙ c.if-rule-head.true))

pub returns-in_err-change : goal.returns-in_err-change
returns-in_err-change c = λ can.
    let rules = can.rules in
    let ready = can.ready in
    let head = c.args.head in
    let first = c.args.plans.now.items in
    let held = c.args.held.now in
    let i = c.loop-i.i in
    let now = c.loop-i.plans.items in
    let plan = c.index_mut.result.now in
    let lt : i < length now = omega (arith, c.loop-i-test.true, can_many c.args.rules.now c.args.head c.args.plans.now.items c.args.held.now c.requires, c.loop-i.invariant.many) in
    let kept : slice_get first i ≡ Some plan = kept_at first now i plan c.loop-i.invariant.later lt c.index_mut.ensures.value in
    let at = rule_at can.rules c.args.rules.now can.heads i c.index-rules-i.result c.loop-i-test.true c.index-rules-i.is in
    let own = at.head_is ∙ c.if-rule-head.true in
    parts_refused rules head first held ready i at.rule at.within at.is own plan kept _ c.evaluate.new.plan c.from_residual.result c.in_err-change.field-0.0 c.from_residual.ensures.1
    (c.in_err-change.ensures at.rule.body (ready_at rules head first held ready i at.rule plan at.within at.is kept own))

pub returns-in_err-add_rule : goal.returns-in_err-add_rule
returns-in_err-add_rule c = λ can.
    let rules = can.rules in
    let ready = can.ready in
    let head = c.args.head in
    let first = c.args.plans.now.items in
    let held = c.args.held.now in
    let i = c.loop-i.i in
    let now = c.loop-i.plans.items in
    let plan = c.index_mut.result.now in
    let lt : i < length now = omega (arith, c.loop-i-test.true, can_many c.args.rules.now c.args.head c.args.plans.now.items c.args.held.now c.requires, c.loop-i.invariant.many) in
    let kept : slice_get first i ≡ Some plan = kept_at first now i plan c.loop-i.invariant.later lt c.index_mut.ensures.value in
    let at = rule_at can.rules c.args.rules.now can.heads i c.index-rules-i.result c.loop-i-test.true c.index-rules-i.is in
    let own = at.head_is ∙ c.if-rule-head.true in
    parts_over rules head first held ready i at.rule at.within at.is own plan kept c.loop-i.parts c.add_rule.new.parts c.in_ok-change.change now _ c.evaluate.new.plan c.from_residual-in_err-add_rule.result c.in_err-add_rule.field-0.0 c.from_residual-in_err-add_rule.ensures.1
    (c.in_ok-change.ensures at.rule.body (ready_at rules head first held ready i at.rule plan at.within at.is kept own)) c.in_err-add_rule.ensures (c.loop-i.invariant.made can)

pub loop-i-preserved : goal.loop-i-preserved
loop-i-preserved c =
    let head = c.args.head in
    let first = c.args.plans.now.items in
    let held = c.args.held.now in
    let i = c.loop-i.i in
    let now = c.loop-i.plans.items in
    let lt : i < length now = omega (arith, c.loop-i-test.true, can_many c.args.rules.now c.args.head c.args.plans.now.items c.args.held.now c.requires, c.loop-i.invariant.many) in
    elim c.if-rule-head.branch [
      | then-rule-head+in_ok-change+in_ok-add_rule w ↦
          let plan = w.index_mut.result.now in
          let put = ap (λ z. z.items) w.plans-is in
          let kept : slice_get first i ≡ Some plan = kept_at first now i plan c.loop-i.invariant.later lt w.index_mut.ensures.value in
          record {
            many = ap length put ∙ length-set now i w.evaluate.new.plan ∙ c.loop-i.invariant.many;
            later = later_set first now c.if-rule-head.plans.items i w.evaluate.new.plan put c.loop-i.invariant.later;
            made = λ can.
                let rules = can.rules in
                let ready = can.ready in
                let at = rule_at can.rules c.args.rules.now can.heads i c.index-rules-i.result c.loop-i-test.true c.index-rules-i.is in
                let own = at.head_is ∙ w.if-rule-head.true in
                parts_own rules head first held ready i at.rule at.within at.is own plan kept c.loop-i.parts c.if-rule-head.parts w.add_rule.new.parts w.in_ok-change.change now c.if-rule-head.plans.items w.evaluate.new.plan lt w.parts-is put
                (w.in_ok-change.ensures at.rule.body (ready_at rules head first held ready i at.rule plan at.within at.is kept own)) w.in_ok-add_rule.ensures (c.loop-i.invariant.made can);
          }
      | else-rule-head w ↦
          let put = ap (λ z. z.items) w.plans-is in
          record {
            many = ap length put ∙ c.loop-i.invariant.many;
            later = later_same first now c.if-rule-head.plans.items i put c.loop-i.invariant.later;
            made = λ can.
                let at = rule_at can.rules c.args.rules.now can.heads i c.index-rules-i.result c.loop-i-test.true c.index-rules-i.is in
                let other : at.rule.head ≢ head = λ e. w.if-rule-head.false (sym at.head_is ∙ e) in
                parts_other can.rules head first held can.ready i at.rule at.within at.is c.loop-i.parts c.if-rule-head.parts now c.if-rule-head.plans.items other w.parts-is put (c.loop-i.invariant.made can);
          }
    ]

pub returns : goal.returns
returns c = λ can. parts_end can.rules c.args.head c.args.plans.now.items c.args.held.now can.ready c.loop-i.i c.loop-i.parts c.loop-i.plans.items (can_ended c.args.rules.now c.args.head c.args.plans.now.items c.args.held.now can c.loop-i.i c.loop-i-test.false) (c.loop-i.invariant.made can)
