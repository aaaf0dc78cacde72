-- An expression by numbers is kept exactly where the expression is table-only, if the collections that it names are marked.
-- A name is so where all its rules are, and a join and a notin where both their parts are.
-- So what grows is kept, and a module without a momentary mix keeps enough parts of each expression.
use Rattle.std.proofs.Common.{◌≡◌, ◌≢◌, ◌∙◌, ◌&&◌, ◌||◌, inl, inr, not, ℕ, Bool, true, false, IsTrue, None, Some, Option, List, refl, ap, sym}
use Rattle.std.specs.Prelude.{◌==◌}
use Rattle.std.specs.List.{list_all}
use Rattle.std.proofs.lemmas.Bool.{and_parts, and_from, eq-eqb, both_ways, false_from_ne_true}
use Rattle.blz_value.specs.Members.{Has}
use Rattle.blz_value.proofs.Membership.{Has-append_left, Has-append_right, all_member, all_from}
use Rattle.blz_value.proofs.Booleans.{same_truth, not_true, and_true, neither, implied}
use Rattle.bloom_forms.specs.declared.module.Kind.{Kind}
use Rattle.bloom_forms.specs.declared.module.Kind.TheVariants.{Input, Output, Table, Scratch}
use Rattle.bloom_forms.specs.declared.module.Collection.{Collection}
use Rattle.bloom_forms.specs.declared.numbered.NumberedExpr.{NumberedExpr, Base, Select', Project', Join', NotIn', Group', AtLeast'}
use Rattle.bloom_forms.specs.declared.numbered.NumberedRule.{NumberedRule}
use Rattle.bloom_forms.specs.Checks.{IsChecked}
use Rattle.bloom_forms.specs.Faults.{mixes}
use Rattle.bloom_forms.specs.Form.{RuleForm, Accepted}
use Rattle.bloom_forms.specs.Heads.{names_of}
use Rattle.bloom_forms.specs.Kinds.{kind_at}
use Rattle.bloom_forms.specs.Numbered.{IsNumbered, AreNumbered}
use Rattle.bloom_forms.specs.Plain.{is_free}
use Rattle.bloom_forms.specs.Query.{Name, Query}
use Rattle.bloom_forms.specs.Query.Query.{base, select, project, join, notin, group, at_least}
use Rattle.bloom_forms.specs.Reads.{is_momentary, facts_of}
use Rattle.bloom_forms.specs.Step.{rules_at}
use Rattle.bloom_forms.proofs.Reach.MomentaryLemmas.{kind_is, now, port_now, join_now, left_now, right_now, name_now, table_later, scratch_now}
use Rattle.bloom_forms.proofs.Reach.ReadsLemmas.{number_of, rules_named, rule_stands, IsRead, reads, named_in}
use Rattle.bloom_index.specs.Growing.{is_growing}
use Rattle.bloom_index.specs.Code.Growth.{grows, rules_grow, kind_grows, AreGrowing}
use Rattle.bloom_index.specs.Code.HeadRules.{AllLast}
use Rattle.bloom_index.specs.Code.Lasting.{lasts_at, lasts, lasts_for, rules_last, IsLastingAt, AreLastingBelow, AreLasting, GrowLast, KeepsEnough}
use Rattle.bloom_index.proofs.GrowsLemmas.{own_rule}
use Rattle.bloom_index.proofs.Marking.{rules_are, rules_pass}

one_passes : (b c : Bool) → (b && c) ≡ false → (not b || not c) ≡ true
one_passes true c e = ap not e
one_passes false c e = refl

module _ (a : Accepted) (checked : IsChecked a.form a.heads) where
  abbrev cs : List Collection
  cs = a.form.collections

  abbrev all_rules : List RuleForm
  all_rules = a.form.rules

  -- an expression is table-only
  abbrev later : Query → Bool
  later q = not (now a checked q)

  -- two parts are table-only exactly where their join is
  both_later : (p q : Query) (pairs : List (Name × Name)) → (later p && later q) ≡ later (join p q pairs)
  both_later p q pairs = same_truth (later p && later q) (later (join p q pairs))
      (λ t.
      let both = and_parts (later p) (later q) t in
      ap not (false_from_ne_true (now a checked (join p q pairs)) (λ n. elim (join_now a checked p q pairs n) [
        | inl l ↦ both_ways (now a checked p) (not_true (now a checked p) both.0) l
        | inr r ↦ both_ways (now a checked q) (not_true (now a checked q) both.1) r
      ])))
      (λ t.
      let whole = not_true (now a checked (join p q pairs)) t in
      and_from _ _
      (ap not (false_from_ne_true (now a checked p) (λ n. both_ways (now a checked (join p q pairs)) whole (left_now a checked p q pairs n))))
      (ap not (false_from_ne_true (now a checked q) (λ n. both_ways (now a checked (join p q pairs)) whole (right_now a checked p q pairs n)))))

  -- ---- by numbers

  module _ (lasting : List Bool) where
    abbrev Marked : Name → Type 0
    Marked n = IsLastingAt a.form lasting (number_of a checked n)

    by_kind : (n : Name) (kind : Kind) → Marked n → kind_at cs (number_of a checked n) ≡ Some kind → lasts_at lasting (number_of a checked n) ≡ kind_grows (Some kind) (rules_last a.form (number_of a checked n))
    by_kind n kind marked is = marked ∙ ap (λ (o : Option Kind). kind_grows o (rules_last a.form (number_of a checked n))) is

    -- the rules of a scratch are table-only exactly where it is
    scratch_is : (n : Name) → kind_at cs (number_of a checked n) ≡ Some Scratch → rules_last a.form (number_of a checked n) ≡ later (base n)
    scratch_is n is = same_truth (rules_last a.form (number_of a checked n)) (later (base n))
        (λ t. ap not (false_from_ne_true (now a checked (base n)) (λ h. elim (name_now a checked n h) [
          | inl port ↦ (let bad : Scratch ≡ Input = kind_is Scratch Input (sym is ∙ port) in cc)
          | inr found ↦ both_ways (now a checked found.0.1) (not_true _ (all_member (λ (rule : RuleForm). later rule.1) (rules_named a checked n) found.0 t (own_rule a checked n found.0 found.1 found.2))) found.4
        ])))
        (λ t. all_from (λ (rule : RuleForm). later rule.1) (rules_named a checked n) (λ r of_head. ap not (scratch_now a checked n is r of_head) ∙ t))

    name_is : (n : Name) → IsRead a checked n → Marked n → lasts_at lasting (number_of a checked n) ≡ later (base n)
    name_is n (inl is) marked = by_kind n Input marked is ∙ sym (ap not (port_now a checked (base n) n (named_in a checked (base n) n (inl refl)) is))
    name_is n (inr (inl is)) marked = by_kind n Table marked is ∙ sym (ap not (table_later a checked n is))
    name_is n (inr (inr is)) marked = by_kind n Scratch marked is ∙ scratch_is n is

    -- the names of an expression are read and marked
    abbrev pub AreKnown : Query → Type 0
    AreKnown q = (n : Name) → Has n (names_of q) → IsRead a checked n × Marked n

    left_known : (p q : Query) (pairs : List (Name × Name)) → AreKnown (join p q pairs) → AreKnown p
    left_known p q pairs known n h = known n (Has-append_left n (names_of p) (names_of q) h)

    right_known : (p q : Query) (pairs : List (Name × Name)) → AreKnown (join p q pairs) → AreKnown q
    right_known p q pairs known n h = known n (Has-append_right n (names_of p) (names_of q) h)

    pub expr_is : (q : Query) (e : NumberedExpr) → AreKnown q → IsNumbered cs q e → lasts lasting e ≡ not (is_momentary cs all_rules q)
    expr_is (base name) (Base number) known is = ap (lasts_at lasting) is ∙ name_is name (known name (inl refl)).0 (known name (inl refl)).1
    expr_is (select q f) (Select' p e test) known is = expr_is q e known is.0
    expr_is (project q items) (Project' p e columns) known is = expr_is q e known is.0
    expr_is (join left right pairs) (Join' p l q r numbers) known is =
        let first = expr_is left l (left_known left right pairs known) is.0 in
        let second = expr_is right r (right_known left right pairs known) is.1 in
        (λ i. first i && second i) ∙ both_later left right pairs
    expr_is (notin left right pairs) (NotIn' p l q r numbers) known is =
        let first = expr_is left l (left_known left right pairs known) is.0 in
        let second = expr_is right r (right_known left right pairs known) is.1 in
        (λ i. first i && second i) ∙ both_later left right pairs
    expr_is (group q keys agg name) (Group' p e numbers by) known is = expr_is q e known is.0
    expr_is (at_least q keys bound) (AtLeast' p e numbers count) known is = expr_is q e known is.0
    expr_is q e known is = absurd is

    -- a part that isn't momentary is kept
    kept_part : (q : Query) (e : NumberedExpr) → AreKnown q → IsNumbered cs q e → now a checked q ≡ false → lasts lasting e ≡ true
    kept_part q e known is off = expr_is q e known is ∙ ap not off

    enough_in : (q : Query) (e : NumberedExpr) → AreKnown q → IsNumbered cs q e → mixes cs (facts_of cs all_rules) q ≡ false → KeepsEnough lasting e
    enough_in (base name) (Base number) known is pure = tt
    enough_in (select q f) (Select' p e test) known is pure = enough_in q e known is.0 pure
    enough_in (project q items) (Project' p e columns) known is pure = enough_in q e known is.0 pure
    enough_in (join left right pairs) (Join' p l q r numbers) known is pure =
        let first = left_known left right pairs known in
        let second = right_known left right pairs known in
        let parts = neither (mixes cs (facts_of cs all_rules) left) (mixes cs (facts_of cs all_rules) right || (now a checked left && now a checked right)) pure in
        let others = neither (mixes cs (facts_of cs all_rules) right) (now a checked left && now a checked right) parts.1 in
        let one : (lasts lasting l || lasts lasting r) ≡ (later left || later right) = λ i. expr_is left l first is.0 i || expr_is right r second is.1 i in
        (enough_in left l first is.0 parts.0, enough_in right r second is.1 others.0, one ∙ one_passes (now a checked left) (now a checked right) others.1)
    enough_in (notin left right pairs) (NotIn' p l q r numbers) known is pure =
        let second = right_known left right pairs known in
        let parts = neither (mixes cs (facts_of cs all_rules) left) (mixes cs (facts_of cs all_rules) right || now a checked right) pure in
        let others = neither (mixes cs (facts_of cs all_rules) right) (now a checked right) parts.1 in
        (enough_in left l (left_known left right pairs known) is.0 parts.0, enough_in right r second is.1 others.0, kept_part right r second is.1 others.1)
    enough_in (group q keys agg name) (Group' p e numbers by) known is pure =
        let parts = neither (mixes cs (facts_of cs all_rules) q) (now a checked q) pure in
        (enough_in q e known is.0 parts.0, kept_part q e known is.0 parts.1)
    enough_in (at_least q keys bound) (AtLeast' p e numbers count) known is pure =
        let parts = neither (mixes cs (facts_of cs all_rules) q) (now a checked q) pure in
        (enough_in q e known is.0 parts.0, kept_part q e known is.0 parts.1)
    enough_in q e known is pure = absurd is

    -- all rules of a head are kept by numbers where all of them are table-only
    pub head_is : (head : ℕ) (rules : List NumberedRule) → AreNumbered cs all_rules rules → AreLastingBelow a.form lasting head → list_all (lasts_for lasting head) rules ≡ rules_last a.form head
    head_is head rules all marked = rules_are cs (λ (r : RuleForm). later r.1) (λ (rule : NumberedRule). lasts lasting rule.body) head all_rules rules all (λ form rule of_head numbered.
        expr_is form.1 rule.body (λ n h. (reads a checked form (rule_stands a checked head form of_head).0 n h, marked form n of_head h)) numbered.body)

    -- ---- where all collections are marked

    module _ (are : AreLasting a lasting) where
      rule_known : (rule : RuleForm) → Has rule all_rules → AreKnown rule.1
      rule_known rule stands n h = (reads a checked rule stands n h, are.each (number_of a checked n))

      -- a body is kept exactly where the rule is table-only
      pub body_is : (rule : RuleForm) → Has rule all_rules → (e : NumberedExpr) → IsNumbered cs rule.1 e → lasts lasting e ≡ not (is_momentary cs all_rules rule.1)
      body_is rule stands e is = expr_is rule.1 e (rule_known rule stands) is

      -- of a body enough parts are kept
      pub enough : (rule : RuleForm) → Has rule all_rules → (e : NumberedExpr) → IsNumbered cs rule.1 e → KeepsEnough lasting e
      enough rule stands e is = enough_in rule.1 e (rule_known rule stands) is (checked.rules rule stands).unmixed

      -- the rules of a head that is kept, and is no table, are kept
      pub all_last : (head : ℕ) → kind_at cs head ≢ Some Table → IsTrue (lasts_at lasting head) → (rules : List NumberedRule) → AreNumbered cs all_rules rules → AllLast lasting rules head
      all_last head other marked rules all rule stands own =
          let passes = rules_pass (kind_at cs head) (rules_last a.form head) other (sym (are.each head) ∙ marked) in
          let each = head_is head rules all (λ form name of_head h. are.each (number_of a checked name)) in
          implied (rule.head == head) (lasts lasting rule.body) (all_member (lasts_for lasting head) rules rule (each ∙ passes) stands) (eq-eqb rule.head head own)

-- ---- what grows is kept

-- a collection that grows is kept
pub grow_last : (a : Accepted) (growing lasting : List Bool) → AreGrowing a growing → AreLasting a lasting → GrowLast growing lasting
grow_last a growing lasting grow last number g = last.each number ∙ each (kind_at a.form.collections number) (sym (grow.each number) ∙ g)
  where
    ruled : rules_grow a.form number ≡ true → rules_last a.form number ≡ true
    ruled t = all_from (λ (r : RuleForm). not (is_momentary a.form.collections a.form.rules r.1)) (rules_at a.form.collections a.form.rules number) (λ r h.
        (and_parts (not (is_momentary a.form.collections a.form.rules r.1)) (is_free a.form.collections a.form.rules r.1) (all_member (λ (x : RuleForm). is_growing a.form.collections a.form.rules x.1) (rules_at a.form.collections a.form.rules number) r t h)).0)

    each : (o : Option Kind) → kind_grows o (rules_grow a.form number) ≡ true → kind_grows o (rules_last a.form number) ≡ true
    each None t = t
    each (Some Input) t = t
    each (Some Table) t = t
    each (Some Output) t = ruled t
    each (Some Scratch) t = ruled t

-- an expression that grows is kept
module _ (growing lasting : List Bool) (last : GrowLast growing lasting) where
  pub grow_lasts : (e : NumberedExpr) → grows growing e ≡ true → lasts lasting e ≡ true
  grow_lasts (Base number) g = last number g
  grow_lasts (Select' p e test) g = grow_lasts e g
  grow_lasts (Project' p e columns) g = grow_lasts e g
  grow_lasts (Join' p a q b pairs) g =
      let both = and_parts (grows growing a) (grows growing b) g in
      and_true (lasts lasting a) (lasts lasting b) (grow_lasts a both.0) (grow_lasts b both.1)
  grow_lasts (NotIn' p a q b pairs) g = absurd (both_ways false refl g)
  grow_lasts (Group' p e keys agg) g = absurd (both_ways false refl g)
  grow_lasts (AtLeast' p e keys bound) g = grow_lasts e g
