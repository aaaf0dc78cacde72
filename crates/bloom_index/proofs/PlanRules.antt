-- The rules of which some plans are the plans, and what is kept by these.
use Rattle.std.proofs.Common.{◌≡◌, ◌∙◌, Bool, List, [], ◌∷◌, ◌++◌, refl, ap, sym, subst, inl, inr}
use Rattle.std.specs.List.{AllZip}
use Rattle.bloom_forms.specs.declared.module.Collection.{Collection}
use Rattle.bloom_forms.specs.declared.numbered.NumberedRule.{NumberedRule}
use Rattle.bloom_forms.specs.Form.{RuleForm}
use Rattle.bloom_forms.specs.Lookup.{collection_number}
use Rattle.bloom_forms.specs.Numbered.{IsNumbered, AreNumbered}
use Rattle.bloom_forms.specs.Step.{Sets}
use Rattle.bloom_index.specs.declared.plan.Plan.{Plan}
use Rattle.bloom_index.specs.Code.Evaluation.{PlanStands, Stands}
use Rattle.bloom_index.specs.Code.HeadRules.{HaveHeads}
use Rattle.bloom_index.specs.Code.Kept.{PlansStand}
use Rattle.bloom_index.specs.Code.Plans.{expr_of, ArePlans, rules_by}
use Rattle.bloom_index.specs.Code.SideParts.{NumberedSide, numbered_sides, rules_sides, plans_sides}

module _ (cs : List Collection) where
  pub rules_numbered : (forms : List RuleForm) (plans : List Plan) → ArePlans cs forms plans → AreNumbered cs forms (rules_by cs forms plans)
  rules_numbered [] [] all = tt
  rules_numbered [] (m ∷ plans) all = absurd all
  rules_numbered (form ∷ forms) [] all = absurd all
  rules_numbered (form ∷ forms) (m ∷ plans) all = (record { head = refl; body = all.0 }, rules_numbered forms plans all.1)

  -- they have the heads of rules by whatever numbers
  pub heads_same : (forms : List RuleForm) (rules others : List NumberedRule) → AreNumbered cs forms rules → AreNumbered cs forms others → HaveHeads rules others
  heads_same [] [] [] is also = tt
  heads_same [] [] (other ∷ others) is also = absurd also
  heads_same [] (rule ∷ rules) others is also = absurd is
  heads_same (form ∷ forms) [] others is also = absurd is
  heads_same (form ∷ forms) (rule ∷ rules) [] is also = absurd also
  heads_same (form ∷ forms) (rule ∷ rules) (other ∷ others) is also = (is.0.head ∙ sym also.0.head, heads_same forms rules others is.1 also.1)

  -- and the sides of the plans
  pub sides_by : (growing : List Bool) (forms : List RuleForm) (plans : List Plan) → ArePlans cs forms plans → rules_sides growing (rules_by cs forms plans) ≡ plans_sides growing plans
  sides_by growing [] [] all = refl
  sides_by growing [] (m ∷ plans) all = absurd all
  sides_by growing (form ∷ forms) [] all = absurd all
  sides_by growing (form ∷ forms) (m ∷ plans) all = ap (λ (sides : List NumberedSide). numbered_sides growing (expr_of m) ++ sides) (sides_by growing forms plans all.1)

  module _ (growing lasting : List Bool) (sets : Sets) where
    -- each plan stands for the body of its rule
    abbrev RulesStand : List NumberedRule → List Plan → Type 0
    RulesStand rules plans = AllZip (λ (rule : NumberedRule) (m : Plan). Stands growing lasting sets rule.body m) rules plans

    pub rules_stand : (forms : List RuleForm) (plans : List Plan) → ArePlans cs forms plans → PlansStand growing lasting sets plans → RulesStand (rules_by cs forms plans) plans
    rules_stand [] [] all stand = tt
    rules_stand [] (m ∷ plans) all stand = absurd all
    rules_stand (form ∷ forms) [] all stand = absurd all
    rules_stand (form ∷ forms) (m ∷ plans) all stand = (record { same = refl; kept = stand m (inl refl) }, rules_stand forms plans all.1 (λ n among. stand n (inr among)))

    -- where they do, they are the plans of these rules
    pub plans_numbered : (forms : List RuleForm) (rules : List NumberedRule) (plans : List Plan) → AreNumbered cs forms rules → RulesStand rules plans → ArePlans cs forms plans
    plans_numbered [] [] [] is all = tt
    plans_numbered [] [] (m ∷ plans) is all = absurd all
    plans_numbered [] (rule ∷ rules) plans is all = absurd is
    plans_numbered (form ∷ forms) [] plans is all = absurd is
    plans_numbered (form ∷ forms) (rule ∷ rules) [] is all = absurd all
    plans_numbered (form ∷ forms) (rule ∷ rules) (m ∷ plans) is all = (subst (IsNumbered cs form.1) (sym all.0.same) is.0.body, plans_numbered forms rules plans is.1 all.1)

    pub rules_are : (forms : List RuleForm) (rules : List NumberedRule) (plans : List Plan) → AreNumbered cs forms rules → RulesStand rules plans → rules_by cs forms plans ≡ rules
    rules_are [] [] [] is all = refl
    rules_are [] [] (m ∷ plans) is all = absurd all
    rules_are [] (rule ∷ rules) plans is all = absurd is
    rules_are (form ∷ forms) [] plans is all = absurd is
    rules_are (form ∷ forms) (rule ∷ rules) [] is all = absurd all
    rules_are (form ∷ forms) (rule ∷ rules) (m ∷ plans) is all =
        let named : collection_number cs form.0 ≡ rule.head = sym is.0.head in
        let more = rules_are forms rules plans is.1 all.1 in
        λ i. record { head = named i; body = all.0.same i } ∷ more i

    pub plans_stand : (rules : List NumberedRule) (plans : List Plan) → RulesStand rules plans → PlansStand growing lasting sets plans
    plans_stand [] [] all m among = absurd among
    plans_stand [] (n ∷ plans) all m among = absurd all
    plans_stand (rule ∷ rules) [] all m among = absurd among
    plans_stand (rule ∷ rules) (n ∷ plans) all m (inl e) = subst (PlanStands growing lasting sets) e all.0.kept
    plans_stand (rule ∷ rules) (n ∷ plans) all m (inr among) = plans_stand rules plans all.1 m among
