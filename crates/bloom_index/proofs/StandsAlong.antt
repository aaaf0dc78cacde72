-- What is kept of an expression speaks of the collections that are kept alone: over sets that hold the same of those which it names it stands as well.
use Rattle.std.proofs.Common.{◌≡◌, ◌≤◌, ℕ, Bool, true, IsTrue, List, [], ◌∷◌, ◌++◌, length, refl, ap, ◌∙◌, sym, subst, inl, inr}
use Rattle.std.specs.Prelude.{◌==◌, ◌&&◌}
use Rattle.std.proofs.lemmas.Bool.{cases_Bool, eqb-true, and_parts}
use Rattle.blz_value.specs.Members.{Has}
use Rattle.blz_value.specs.Record.{Row}
use Rattle.blz_value.specs.Sets.{set_of}
use Rattle.blz_value.specs.Test.{test_holds}
use Rattle.blz_value.specs.Operators.{Pairs, select_rows, project_rows, join_rows, notin_rows}
use Rattle.blz_value.specs.Groups.{group_rows, at_least_rows}
use Rattle.blz_value.specs.declared.aggregate.Agg.TheVariants.{Count}
use Rattle.blz_value.proofs.Membership.{Has-append_left, Has-append_right}
use Rattle.blz_set.specs.Pairs.{lefts_of, rights_of}
use Rattle.blz_set.specs.RecordSet.{row_limit}
use Rattle.bloom_forms.specs.declared.module.Collection.{Collection}
use Rattle.bloom_forms.specs.declared.numbered.NumberedExpr.{NumberedExpr}
use Rattle.bloom_forms.specs.declared.numbered.NumberedExpr as expr
use Rattle.bloom_forms.specs.declared.numbered.NumberedRule.{NumberedRule}
use Rattle.bloom_forms.specs.Heads.{names_of}
use Rattle.bloom_forms.specs.Lookup.{collection_number}
use Rattle.bloom_forms.specs.Numbered.{IsNumbered}
use Rattle.bloom_forms.specs.Query.{Name, Query}
use Rattle.bloom_forms.specs.Query.Query.{base, select, project, join, notin, group, at_least}
use Rattle.bloom_forms.specs.Step.{Sets, set_at}
use Rattle.bloom_eval.specs.NumberedRows.{numbered_rows}
use Rattle.bloom_growth.specs.declared.bag.Bag.{Bag}
use Rattle.bloom_growth.specs.declared.turn_joins.KeptJoin.{KeptJoin}
use Rattle.bloom_growth.specs.declared.turn_notins.KeptNotIn.{KeptNotIn}
use Rattle.bloom_growth.specs.Bags.{IsBag}
use Rattle.bloom_growth.specs.Whole.{counted_rows}
use Rattle.bloom_growth.specs.ByKey.{AreByKey}
use Rattle.bloom_growth.specs.Kept.{Kept}
use Rattle.bloom_growth.specs.Keyed.{IsKeyedBy}
use Rattle.bloom_growth.specs.TurningGroups.{TalliesStand}
use Rattle.bloom_parts.specs.declared.part_rows.PartRows.{PartRows}
use Rattle.bloom_parts.specs.KeptParts.{PartStands, JoinStands, NotInStands}
use Rattle.bloom_parts.specs.PartForms.{kept_of}
use Rattle.bloom_index.specs.declared.plan.Plan.{Plan}
use Rattle.bloom_index.specs.declared.plan.Plan as plan
use Rattle.bloom_index.specs.Code.Evaluation.{PlanStands, Stands}
use Rattle.bloom_index.specs.Code.Growth.{grows}
use Rattle.bloom_index.specs.Code.HeadRules.{HasGiven}
use Rattle.bloom_index.specs.Code.Heads.{kept_rules, rows_given}
use Rattle.bloom_index.specs.Code.Lasting.{lasts_at, lasts}
use Rattle.bloom_index.specs.Code.Plans.{expr_of}

-- the sets hold the same of each collection that is kept and stands in the expression
abbrev pub AgreeOn : List Bool → (xs ys : Sets) → NumberedExpr → Type 0
AgreeOn lasting xs ys (expr.Base number) = IsTrue (lasts_at lasting number) → set_at xs number ≡ set_at ys number
AgreeOn lasting xs ys (expr.Select' p e test) = AgreeOn lasting xs ys e
AgreeOn lasting xs ys (expr.Project' p e columns) = AgreeOn lasting xs ys e
AgreeOn lasting xs ys (expr.Join' p a q b pairs) = AgreeOn lasting xs ys a × AgreeOn lasting xs ys b
AgreeOn lasting xs ys (expr.NotIn' p a q b pairs) = AgreeOn lasting xs ys a × AgreeOn lasting xs ys b
AgreeOn lasting xs ys (expr.Group' p e keys agg) = AgreeOn lasting xs ys e
AgreeOn lasting xs ys (expr.AtLeast' p e keys bound) = AgreeOn lasting xs ys e

-- ---- when they do

pub agree_all : (lasting : List Bool) (xs ys : Sets) → ((k : ℕ) → IsTrue (lasts_at lasting k) → set_at xs k ≡ set_at ys k) → (e : NumberedExpr) → AgreeOn lasting xs ys e
agree_all lasting xs ys same (expr.Base number) = same number
agree_all lasting xs ys same (expr.Select' p e test) = agree_all lasting xs ys same e
agree_all lasting xs ys same (expr.Project' p e columns) = agree_all lasting xs ys same e
agree_all lasting xs ys same (expr.Join' p a q b pairs) = (agree_all lasting xs ys same a, agree_all lasting xs ys same b)
agree_all lasting xs ys same (expr.NotIn' p a q b pairs) = (agree_all lasting xs ys same a, agree_all lasting xs ys same b)
agree_all lasting xs ys same (expr.Group' p e keys agg) = agree_all lasting xs ys same e
agree_all lasting xs ys same (expr.AtLeast' p e keys bound) = agree_all lasting xs ys same e

module _ (cs : List Collection) (lasting : List Bool) (xs ys : Sets) where
  pub agree_named : (q : Query) (e : NumberedExpr) → IsNumbered cs q e → ((n : Name) → Has n (names_of q) → IsTrue (lasts_at lasting (collection_number cs n)) → set_at xs (collection_number cs n) ≡ set_at ys (collection_number cs n)) → AgreeOn lasting xs ys e
  agree_named (base name) (expr.Base number) is same = λ g. ap (set_at xs) is ∙ same name (inl refl) (ap (lasts_at lasting) (sym is) ∙ g) ∙ sym (ap (set_at ys) is)
  agree_named (select q f) (expr.Select' p e test) is same = agree_named q e is.0 same
  agree_named (project q items) (expr.Project' p e columns) is same = agree_named q e is.0 same
  agree_named (join a b pairs) (expr.Join' p left r right numbers) is same = (
    agree_named a left is.0 (λ n h. same n (Has-append_left n (names_of a) (names_of b) h)),
    agree_named b right is.1 (λ n h. same n (Has-append_right n (names_of a) (names_of b) h)),
  )
  agree_named (notin a b pairs) (expr.NotIn' p left r right numbers) is same = (
    agree_named a left is.0 (λ n h. same n (Has-append_left n (names_of a) (names_of b) h)),
    agree_named b right is.1 (λ n h. same n (Has-append_right n (names_of a) (names_of b) h)),
  )
  agree_named (group q keys agg name) (expr.Group' p e numbers by) is same = agree_named q e is.0 same
  agree_named (at_least q keys bound) (expr.AtLeast' p e numbers count) is same = agree_named q e is.0 same
  agree_named q e is same = absurd is

-- ---- what follows

module _ (lasting : List Bool) (xs ys : Sets) where
  -- a part that is kept has the same rows
  pub same_part : (e : NumberedExpr) → AgreeOn lasting xs ys e → lasts lasting e ≡ true → numbered_rows xs e ≡ numbered_rows ys e
  same_part (expr.Base number) agree t = agree t
  same_part (expr.Select' p e test) agree t = ap (λ (rows : List Row). set_of (select_rows (test_holds test) rows)) (same_part e agree t)
  same_part (expr.Project' p e columns) agree t = ap (λ (rows : List Row). set_of (project_rows columns rows)) (same_part e agree t)
  same_part (expr.Join' p a q b pairs) agree t =
      let both = and_parts (lasts lasting a) (lasts lasting b) t in
      let lefts = same_part a agree.0 both.0 in
      let rights = same_part b agree.1 both.1 in
      λ i. set_of (join_rows pairs (lefts i) (rights i))
  same_part (expr.NotIn' p a q b pairs) agree t =
      let both = and_parts (lasts lasting a) (lasts lasting b) t in
      let lefts = same_part a agree.0 both.0 in
      let rights = same_part b agree.1 both.1 in
      λ i. set_of (notin_rows pairs (lefts i) (rights i))
  same_part (expr.Group' p e keys agg) agree t = ap (λ (rows : List Row). set_of (group_rows keys agg rows)) (same_part e agree t)
  same_part (expr.AtLeast' p e keys bound) agree t = ap (λ (rows : List Row). set_of (at_least_rows keys bound rows)) (same_part e agree t)

  -- the rules of a head that are kept give the same
  pub same_given : (rules : List NumberedRule) (head : ℕ) → ((rule : NumberedRule) → Has rule rules → rule.head ≡ head → AgreeOn lasting xs ys rule.body) → rows_given xs (kept_rules lasting rules head) ≡ rows_given ys (kept_rules lasting rules head)
  same_given [] head agree = refl
  same_given (rule ∷ rules) head agree =
      let more = same_given rules head (λ r h. agree r (inr h)) in
      elim (cases_Bool (rule.head == head && lasts lasting rule.body)) [
        | inl t ↦
            let both = and_parts (rule.head == head) (lasts lasting rule.body) t in
            let own = same_part rule.body (agree rule (inl refl) (eqb-true rule.head head both.0)) both.1 in
            rw t (λ i. own i ++ more i)
        | inr f ↦ rw f more
      ]

  -- so a bag that has it over the one has it over the other
  pub given_along : (rules : List NumberedRule) (head : ℕ) (bag : Bag) → ((rule : NumberedRule) → Has rule rules → rule.head ≡ head → AgreeOn lasting xs ys rule.body) → HasGiven lasting xs rules head bag → HasGiven lasting ys rules head bag
  given_along rules head bag agree given = λ needs. subst (λ (rows : List Row). IsBag rows bag) (same_given rules head agree) (given needs)

-- ---- what is kept of a part, of which only the rows of one that is kept are told

part_along : (columns : List ℕ) (grow last : Bool) (ls ms : List Row) (kept : Kept) → (IsTrue last → ls ≡ ms) → PartStands columns grow last ls kept → PartStands columns grow last ms kept
part_along columns grow last ls ms kept same s = record {
  form = s.form;
  columns_are = s.columns_are;
  by_key = λ t. subst (λ (rows : List Row). AreByKey columns rows kept.sets) (same t) (s.by_key t);
}

join_along : (pairs : Pairs) (left_grows left right_grows right : Bool) (ls ms rs ss : List Row) (kept : KeptJoin PartRows PartRows) → (IsTrue left → ls ≡ ms) → (IsTrue right → rs ≡ ss) → JoinStands pairs left_grows left right_grows right ls rs kept → JoinStands pairs left_grows left right_grows right ms ss kept
join_along pairs left_grows left right_grows right ls ms rs ss kept lefts rights s = record {
  left = part_along (lefts_of pairs) left_grows left ls ms (kept_of kept.left) lefts s.left;
  right = part_along (rights_of pairs) right_grows right rs ss (kept_of kept.right) rights s.right;
  counted = λ t u. s.counted t u ∙ (λ i. length (set_of (join_rows pairs (lefts t i) (rights u i))));
  few = λ t u. subst (λ (n : ℕ). n ≤ row_limit) (λ i. length (set_of (join_rows pairs (lefts t i) (rights u i)))) (s.few t u);
}

notin_along : (pairs : Pairs) (left right_grows right : Bool) (ls ms rs ss : List Row) (kept : KeptNotIn PartRows) → (IsTrue left → ls ≡ ms) → (IsTrue right → rs ≡ ss) → NotInStands pairs left right_grows right ls rs kept → NotInStands pairs left right_grows right ms ss kept
notin_along pairs left right_grows right ls ms rs ss kept lefts rights s = record {
  left_columns = s.left_columns;
  left = λ t. subst (λ (rows : List Row). IsKeyedBy (lefts_of pairs) rows kept.left) (lefts t) (s.left t);
  right = part_along (rights_of pairs) right_grows right rs ss (kept_of kept.right) rights s.right;
}

module _ (growing lasting : List Bool) (xs ys : Sets) where
  pub plan_along : (m : Plan) → AgreeOn lasting xs ys (expr_of m) → PlanStands growing lasting xs m → PlanStands growing lasting ys m
  plan_along (plan.Base number) agree s = s
  plan_along (plan.Select' p m test) agree s = plan_along m agree s
  plan_along (plan.Project' p m columns bag) agree s = (
    plan_along m agree s.0,
    λ t. subst (λ (rows : List Row). IsBag (counted_rows columns rows) bag) (same_part lasting xs ys (expr_of m) agree t) (s.1 t),
  )
  plan_along (plan.Join' p m q n pairs kept) agree s = (
    plan_along m agree.0 s.0,
    plan_along n agree.1 s.1,
    join_along pairs (grows growing (expr_of m)) (lasts lasting (expr_of m)) (grows growing (expr_of n)) (lasts lasting (expr_of n)) (numbered_rows xs (expr_of m)) (numbered_rows ys (expr_of m)) (numbered_rows xs (expr_of n)) (numbered_rows ys (expr_of n)) kept
        (same_part lasting xs ys (expr_of m) agree.0) (same_part lasting xs ys (expr_of n) agree.1) s.2,
  )
  plan_along (plan.NotIn' p m q n pairs kept) agree s = (
    plan_along m agree.0 s.0,
    plan_along n agree.1 s.1,
    notin_along pairs (lasts lasting (expr_of m)) (grows growing (expr_of n)) (lasts lasting (expr_of n)) (numbered_rows xs (expr_of m)) (numbered_rows ys (expr_of m)) (numbered_rows xs (expr_of n)) (numbered_rows ys (expr_of n)) kept
        (same_part lasting xs ys (expr_of m) agree.0) (same_part lasting xs ys (expr_of n) agree.1) s.2,
  )
  plan_along (plan.Group' p m groups) agree s = (plan_along m agree s.0, λ t. subst (λ (rows : List Row). TalliesStand groups.keys.items groups.agg rows groups) (same_part lasting xs ys (expr_of m) agree t) (s.1 t))
  plan_along (plan.AtLeast' p m bound groups) agree s = (plan_along m agree s.0, λ t. subst (λ (rows : List Row). TalliesStand groups.keys.items Count rows groups) (same_part lasting xs ys (expr_of m) agree t) (s.1 t))

  pub stands_along : (e : NumberedExpr) (m : Plan) → AgreeOn lasting xs ys e → Stands growing lasting xs e m → Stands growing lasting ys e m
  stands_along e m agree s = record { same = s.same; kept = plan_along m (subst (AgreeOn lasting xs ys) (sym s.same) agree) s.kept }
