use Rattle.std.proofs.Common.{◌≡◌, ◌≢◌, ◌<◌, ◌∙◌, Some, length, ap, refl, sym, arith}
use Rattle.std.specs.Prelude.{slice_get}
use Rattle.std.proofs.lemmas.List.{length-set}
use Rattle.bloom_parts.specs.Turns.{rows_in}
use Rattle.bloom_index.proofs.Evaluating.{ready_here}
use Rattle.bloom_index.proofs.HeadLoops.{grow_begins, grow_other, has_old, grow_own, grow_refused, grow_ends}
use Rattle.bloom_index.proofs.HeadRulesLemmas.{rule_at, can_many, can_ended, ready_at, kept_at, later_set, later_same}
use Rattle.bloom_index.proofs.heads.grow_head.Goals as goal
use Rattle.bloom_index.proofs.heads.grow_head.Goals.{then-rule-head+in_ok-grow_by, else-rule-head}

pub loop-i-init : goal.loop-i-init
loop-i-init c = record {
  many = refl;
  later = λ k le. refl;
  growing = λ can has grow. grow_begins can.rules c.args.head c.args.plans.now.items c.args.held.now can.ready c.args.rows.now c.new.result c.known.ensures c.new.ensures;
}

pub index_mut-requires : goal.index_mut-requires
index_mut-requires c = omega (arith, c.loop-i-test.true, can_many c.args.rules.now c.args.head c.args.plans.now.items c.args.held.now c.requires, c.loop-i.invariant.many)

pub grow_by-requires : goal.grow_by-requires
grow_by-requires c =
    let can = c.requires in
    let first = c.args.plans.now.items in
    let now = c.loop-i.plans.items in
    let i = c.loop-i.i in
    let plan = c.index_mut.result.now in
    let lt : i < length now = omega (arith, c.loop-i-test.true, can_many c.args.rules.now c.args.head c.args.plans.now.items c.args.held.now c.requires, c.loop-i.invariant.many) in
    let kept : slice_get first i ≡ Some plan = kept_at first now i plan c.loop-i.invariant.later lt c.index_mut.ensures.value in
    let at = rule_at can.rules c.args.rules.now can.heads i c.index-rules-i.result c.loop-i-test.true c.index-rules-i.is in
    ready_here at.rule.body plan c.args.held.now (ready_at can.rules c.args.head first c.args.held.now can.ready i at.rule plan at.within at.is kept (at.head_is ∙ c.if-rule-head.true))

pub returns-in_err-grow_by : goal.returns-in_err-grow_by
returns-in_err-grow_by c = λ can has grow.
    let rules = can.rules in
    let ready = can.ready in
    let head = c.args.head in
    let first = c.args.plans.now.items in
    let held = c.args.held.now in
    let rows = c.args.rows.now in
    let i = c.loop-i.i in
    let now = c.loop-i.plans.items in
    let plan = c.index_mut.result.now in
    let lt : i < length now = omega (arith, c.loop-i-test.true, can_many c.args.rules.now c.args.head c.args.plans.now.items c.args.held.now c.requires, c.loop-i.invariant.many) in
    let kept : slice_get first i ≡ Some plan = kept_at first now i plan c.loop-i.invariant.later lt c.index_mut.ensures.value in
    let at = rule_at can.rules c.args.rules.now can.heads i c.index-rules-i.result c.loop-i-test.true c.index-rules-i.is in
    let own = at.head_is ∙ c.if-rule-head.true in
    let so_far = c.loop-i.invariant.growing can has grow in
    grow_refused rules head first held ready rows i at.rule at.within at.is own plan kept c.loop-i.rows (rows_in c.loop-i.more) c.grow_by.new.rows (rows_in c.grow_by.new.fresh) _ now _ c.grow_by.new.plan c.from_residual.result c.in_err-grow_by.field-0.0 c.from_residual.ensures.1 so_far
    (c.in_err-grow_by.ensures at.rule.body (ready_at rules head first held ready i at.rule plan at.within at.is kept own) rows (has_old rules head first held ready rows i at.rule at.within at.is own plan kept c.loop-i.rows (rows_in c.loop-i.more) has so_far.extends) so_far.extends)

pub loop-i-preserved : goal.loop-i-preserved
loop-i-preserved c =
    let head = c.args.head in
    let first = c.args.plans.now.items in
    let held = c.args.held.now in
    let rows = c.args.rows.now in
    let i = c.loop-i.i in
    let now = c.loop-i.plans.items in
    let lt : i < length now = omega (arith, c.loop-i-test.true, can_many c.args.rules.now c.args.head c.args.plans.now.items c.args.held.now c.requires, c.loop-i.invariant.many) in
    elim c.if-rule-head.branch [
      | then-rule-head+in_ok-grow_by w ↦
          let plan = w.index_mut.result.now in
          let put = ap (λ z. z.items) w.plans-is in
          let kept : slice_get first i ≡ Some plan = kept_at first now i plan c.loop-i.invariant.later lt w.index_mut.ensures.value in
          record {
            many = ap length put ∙ length-set now i w.grow_by.new.plan ∙ c.loop-i.invariant.many;
            later = later_set first now c.if-rule-head.plans.items i w.grow_by.new.plan put c.loop-i.invariant.later;
            growing = λ can has grow.
                let rules = can.rules in
                let ready = can.ready in
                let at = rule_at can.rules c.args.rules.now can.heads i c.index-rules-i.result c.loop-i-test.true c.index-rules-i.is in
                let own = at.head_is ∙ w.if-rule-head.true in
                let so_far = c.loop-i.invariant.growing can has grow in
                grow_own rules head first held ready rows i at.rule at.within at.is own plan kept c.loop-i.rows (rows_in c.loop-i.more) c.if-rule-head.rows (rows_in c.if-rule-head.more) w.grow_by.new.rows (rows_in w.grow_by.new.fresh) now c.if-rule-head.plans.items w.grow_by.new.plan lt w.rows-is (ap rows_in w.more-is) put so_far
                (w.in_ok-grow_by.ensures at.rule.body (ready_at rules head first held ready i at.rule plan at.within at.is kept own) rows (has_old rules head first held ready rows i at.rule at.within at.is own plan kept c.loop-i.rows (rows_in c.loop-i.more) has so_far.extends) so_far.extends);
          }
      | else-rule-head w ↦
          let put = ap (λ z. z.items) w.plans-is in
          record {
            many = ap length put ∙ c.loop-i.invariant.many;
            later = later_same first now c.if-rule-head.plans.items i put c.loop-i.invariant.later;
            growing = λ can has grow.
                let at = rule_at can.rules c.args.rules.now can.heads i c.index-rules-i.result c.loop-i-test.true c.index-rules-i.is in
                let other : at.rule.head ≢ head = λ e. w.if-rule-head.false (sym at.head_is ∙ e) in
                grow_other can.rules head first held can.ready rows i at.rule at.within at.is c.loop-i.rows (rows_in c.loop-i.more) c.if-rule-head.rows (rows_in c.if-rule-head.more) now c.if-rule-head.plans.items other w.rows-is (ap rows_in w.more-is) put (c.loop-i.invariant.growing can has grow);
          }
    ]

pub returns : goal.returns
returns c = λ can has grow.
    grow_ends can.rules c.args.head c.args.plans.now.items c.args.held.now can.ready c.args.rows.now c.loop-i.rows (rows_in c.loop-i.more) c.loop-i.i c.loop-i.plans.items c.kept.result (can_ended c.args.rules.now c.args.head c.args.plans.now.items c.args.held.now can c.loop-i.i c.loop-i-test.false) c.kept.ensures.kept c.kept.ensures.rows
    (c.kept.ensures.gone ∙ c.new-2.ensures) (c.loop-i.invariant.growing can has grow)
