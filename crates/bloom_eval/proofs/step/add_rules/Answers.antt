use Rattle.std.proofs.Common.{◌≡◌, ◌+◌, ◌∙◌, ◌∷◌, drop, List, Ok, Err, ap, sym, subst, arith}
use Rattle.blz_value.specs.Record.{Row}
use Rattle.bloom_forms.specs.Form.{RuleForm}
use Rattle.bloom_forms.specs.Lookup.{declared}
use Rattle.bloom_forms.specs.Step.{rows_named, rules_at}
use Rattle.bloom_eval.specs.Code.Held.{sets_in}
use Rattle.bloom_eval.specs.Counted.{Adds}
use Rattle.bloom_eval.proofs.ByNumbers.{tests_fit}
use Rattle.blz_set.proofs.Unions.{handed_on}
use Rattle.bloom_eval.proofs.Rules.{adds_none, adds_one, first_refused, form_at, own_rule, other_rule, none_from, adds_named}
use Rattle.bloom_eval.proofs.Widths.{wide_named}
use Rattle.bloom_eval.proofs.step.add_rules.Goals as goal
use Rattle.bloom_eval.proofs.step.add_rules.Goals.{then-rule-head+in_ok-add_rule, else-rule-head}

pub add_rule-requires : goal.add_rule-requires
add_rule-requires c =
    let a = c.args.program.now in
    let at = form_at a.form.collections a.form.rules c.rules-rule-items.result.now c.loop-rule.rule-index c.rule-item.result c.rules-rule-items.ensures.numbered c.loop-rule-test.true c.rule-item.is in
    tests_fit a.form.collections (sets_in c.args.held.now) (wide_named a.form.collections (sets_in c.args.held.now) c.requires) at.form.1 c.rule-item.result.body at.is.body

pub returns-in_err-add_rule : goal.returns-in_err-add_rule
returns-in_err-add_rule c =
    let cs = c.args.program.now.form.collections in
    let rules = c.args.program.now.form.rules in
    let sets = sets_in c.args.held.now in
    let i = c.loop-rule.rule-index in
    let head = c.args.head in
    let rule = c.rule-item.result in
    let at = form_at cs rules c.rules-rule-items.result.now i rule c.rules-rule-items.ensures.numbered c.loop-rule-test.true c.rule-item.is in
    let rest = rules_at cs (drop (i + 1) rules) head in
    let old = c.loop-rule.set in
    let new = c.add_rule.new.set in
    let fault = c.in_err-add_rule.field-0.0 in
    let here : rules_at cs (drop i rules) head ≡ at.form ∷ rest = ap (λ left. rules_at cs left head) at.from ∙ own_rule cs at.form (drop (i + 1) rules) rule head at.is c.if-rule-head.true in
    subst (Adds (declared cs) (rows_named cs sets) (rules_at cs rules head) c.args.set.now new) (sym (handed_on _ c.from_residual.result fault c.from_residual.ensures.1))
    (c.loop-rule.invariant new (Err fault) (subst (λ (own : List RuleForm). Adds {X = Unit {0}} (declared cs) (rows_named cs sets) own old new (Err fault)) (sym here)
    (first_refused (declared cs) (rows_named cs sets) (Unit {0}) at.form rest old new new fault (adds_named (Unit {0}) cs sets at.form rule old new (Err fault) at.is c.in_err-add_rule.ensures))))

pub loop-rule-preserved : goal.loop-rule-preserved
loop-rule-preserved c =
    let cs = c.args.program.now.form.collections in
    let rules = c.args.program.now.form.rules in
    let sets = sets_in c.args.held.now in
    let i = c.loop-rule.rule-index in
    let head = c.args.head in
    let rule = c.rule-item.result in
    let at = form_at cs rules c.rules-rule-items.result.now i rule c.rules-rule-items.ensures.numbered c.loop-rule-test.true c.rule-item.is in
    let rest = rules_at cs (drop (i + 1) rules) head in
    let old = c.loop-rule.set in
    let from = ap (λ left. rules_at cs left head) at.from in
    λ new r adds. elim c.if-rule-head.branch [
      | then-rule-head+in_ok-add_rule w ↦
          let added = adds_named (Unit {0}) cs sets at.form rule old w.add_rule.new.set (Ok (tt {0})) at.is w.in_ok-add_rule.ensures in
          c.loop-rule.invariant new r (subst (λ (own : List RuleForm). Adds (declared cs) (rows_named cs sets) own old new r) (sym (from ∙ own_rule cs at.form (drop (i + 1) rules) rule head at.is w.if-rule-head.true))
          (adds_one (declared cs) (rows_named cs sets) at.form rest old new r added.1 (subst (λ (s : List Row). Adds (declared cs) (rows_named cs sets) rest s new r) (w.set-is ∙ added.0) adds)))
      | else-rule-head w ↦
          c.loop-rule.invariant new r (subst (λ (own : List RuleForm). Adds (declared cs) (rows_named cs sets) own old new r) (sym (from ∙ other_rule cs at.form (drop (i + 1) rules) rule head at.is w.if-rule-head.false))
          (subst (λ (s : List Row). Adds (declared cs) (rows_named cs sets) rest s new r) w.set-is adds))
    ]

pub returns : goal.returns
returns c =
    let cs = c.args.program.now.form.collections in
    let rules = c.args.program.now.form.rules in
    let sets = sets_in c.args.held.now in
    let none = ap (λ left. rules_at cs left c.args.head) (none_from cs rules c.rules-rule-items.result.now c.loop-rule.rule-index c.rules-rule-items.ensures.numbered (omega (arith, c.loop-rule-test.false))) in
    c.loop-rule.invariant c.loop-rule.set (Ok (tt {0})) (subst (λ (own : List RuleForm). Adds (declared cs) (rows_named cs sets) own c.loop-rule.set c.loop-rule.set (Ok (tt {0}))) (sym none)
    (adds_none (declared cs) (rows_named cs sets) c.loop-rule.set c.rows-rows.ensures.set.sorted c.rows-rows.ensures.set.small (tt {0})))
