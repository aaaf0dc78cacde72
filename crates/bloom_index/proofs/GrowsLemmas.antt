-- An expression by numbers grows exactly where the expression is growing, if the collections that it names are marked.
-- What grows is table-only, plain, and reads scratches through plain rules alone.
-- A name is so where all its rules are, and a join where both its parts are.
use Rattle.std.proofs.Common.{◌≡◌, ◌≢◌, ◌∙◌, ◌&&◌, ◌⊎◌, inl, inr, not, ℕ, Bool, true, false, IsTrue, Some, Option, List, refl, ap, sym, subst}
use Rattle.std.specs.Prelude.{◌==◌, bit_or}
use Rattle.std.specs.List.{list_all}
use Rattle.std.proofs.lemmas.Bool.{and_parts, and_from, or_cases, true≢false, eq-eqb, both_ways, false_from_ne_true}
use Rattle.blz_value.specs.Members.{Has}
use Rattle.blz_value.proofs.Membership.{Has-append_left, Has-append_right, Has-filter, Has-from_filter, all_member, all_from}
use Rattle.blz_value.specs.Bits.{bit_of, meets}
use Rattle.blz_value.proofs.Within.{within-or_l, within-or_r}
use Rattle.blz_value.proofs.Members.{in-within, in-or, one_number, own-in}
use Rattle.blz_value.proofs.Least.{closure-least}
use Rattle.blz_value.proofs.Reached.{least-monotone}
use Rattle.blz_value.proofs.Booleans.{same_truth, not_true}
use Rattle.bloom_forms.specs.declared.module.Kind.{Kind}
use Rattle.bloom_forms.specs.declared.module.Kind.TheVariants.{Input, Table, Scratch}
use Rattle.bloom_forms.specs.declared.module.Collection.{Collection}
use Rattle.bloom_forms.specs.declared.numbered.NumberedExpr.{NumberedExpr, Base, Select', Project', Join', NotIn', Group', AtLeast'}
use Rattle.bloom_forms.specs.declared.numbered.NumberedRule.{NumberedRule}
use Rattle.bloom_forms.specs.Checks.{IsChecked}
use Rattle.bloom_forms.specs.Form.{RuleForm, Accepted}
use Rattle.bloom_forms.specs.Heads.{names_of}
use Rattle.bloom_forms.specs.Kinds.{has_kind, is_scratch, kind_at}
use Rattle.bloom_forms.specs.Lookup.{collection_number}
use Rattle.bloom_forms.specs.Numbered.{IsNumbered, AreNumbered}
use Rattle.bloom_forms.specs.Plain.{is_plain, is_free, scratch_rules_read}
use Rattle.bloom_forms.specs.Query.{Name, Query}
use Rattle.bloom_forms.specs.Query.Query.{base, select, project, join, notin, group, at_least}
use Rattle.bloom_forms.specs.Reads.{set_of_name, named, scratch_arrows, direct, NamesScratchRule}
use Rattle.bloom_forms.specs.Step.{rules_at}
use Rattle.bloom_forms.proofs.Collections.KindSets.{kind-named, named-kind}
use Rattle.bloom_forms.proofs.Reach.MomentaryLemmas.{kind_is, now, port_now, join_now, left_now, right_now, name_now, table_later, scratch_now}
use Rattle.bloom_forms.proofs.Reach.ReadsLemmas.{number_of, small_number, rules_named, rule_stands, IsRead, reads, named_in}
use Rattle.bloom_forms.proofs.Reach.Unfolding.{direct_unfolds, direct_folds}
use Rattle.bloom_index.specs.Growing.{is_growing}
use Rattle.bloom_index.proofs.Marking.{rules_are, rules_pass}
use Rattle.bloom_index.specs.Code.Growth.{grows_at, grows, grows_for, rules_grow, kind_grows, IsMarked, AreMarkedBelow, AreGrowing}

-- ---- truth values

stopped : (b c : Bool) → (b && (false && c)) ≡ false
stopped true c = refl
stopped false c = refl

module _ (a : Accepted) (checked : IsChecked a.form a.heads) where
  abbrev cs : List Collection
  cs = a.form.collections

  abbrev all_rules : List RuleForm
  all_rules = a.form.rules

  -- a rule's head is read by an expression
  abbrev Reaches : Query → RuleForm → Type 0
  Reaches q r = meets (set_of_name cs r.0) (direct cs all_rules q) ≡ true

  -- ---- what is growing

  pub record Grows (q : Query) : Type 0 where
    pub later : now a checked q ≡ false
    pub plain : is_plain q ≡ true
    pub through : (r : RuleForm) → Has r all_rules → has_kind is_scratch cs r.0 ≡ true → Reaches q r → is_plain r.1 ≡ true

  abbrev is_read : Query → RuleForm → Bool
  is_read q r = has_kind is_scratch cs r.0 && meets (set_of_name cs r.0) (direct cs all_rules q)

  to_grows : (q : Query) → is_growing cs all_rules q ≡ true → Grows q
  to_grows q t =
      let parts = and_parts (not (now a checked q)) (is_free cs all_rules q) t in
      let free = and_parts (is_plain q) (list_all (λ (r : RuleForm). is_plain r.1) (scratch_rules_read cs all_rules q)) parts.1 in
      record {
        later = not_true (now a checked q) parts.0;
        plain = free.0;
        through = λ r stands scratch there. all_member (λ (x : RuleForm). is_plain x.1) (scratch_rules_read cs all_rules q) r free.1 (Has-filter (is_read q) r all_rules stands (and_from _ _ scratch there));
      }

  from_grows : (q : Query) → Grows q → is_growing cs all_rules q ≡ true
  from_grows q g =
      let free = all_from (λ (x : RuleForm). is_plain x.1) (scratch_rules_read cs all_rules q) (λ r h.
      let m = Has-from_filter (is_read q) r all_rules h in
      let both = and_parts (has_kind is_scratch cs r.0) (meets (set_of_name cs r.0) (direct cs all_rules q)) m.1 in
      g.through r m.0 both.0 both.1) in
      and_from _ _ (ap not g.later) (and_from _ _ g.plain free)

  -- ---- a name

  -- a rule of a name
  pub own_rule : (n : Name) (r : RuleForm) → Has r all_rules → number_of a checked r.0 ≡ number_of a checked n → Has r (rules_named a checked n)
  own_rule n r stands same = Has-filter (λ (rule : RuleForm). collection_number cs rule.0 == number_of a checked n) r all_rules stands (eq-eqb (number_of a checked r.0) (number_of a checked n) same)

  -- a rule that a name reads is its own, or read by one of its own
  from_name : (n : Name) (r : RuleForm) → Reaches (base n) r → (number_of a checked r.0 ≡ number_of a checked n) ⊎ ((own : RuleForm) × NamesScratchRule cs all_rules (base n) own × Reaches own.1 r)
  from_name n r h = elim (direct_unfolds cs all_rules (base n) checked.few_collections (number_of a checked r.0) (small_number a checked r.0) h) [
    | inl t ↦ inl (sym (one_number (number_of a checked r.0) (number_of a checked n) (small_number a checked r.0) t))
    | inr p ↦ inr p
  ]

  named_number : (n : Name) (r : RuleForm) → NamesScratchRule cs all_rules (base n) r → number_of a checked r.0 ≡ number_of a checked n
  named_number n r names = sym (one_number (number_of a checked r.0) (number_of a checked n) (small_number a checked r.0) names.rule.named)

  no_scratch : (n m : Name) → kind_at cs (number_of a checked n) ≡ Some Table → has_kind is_scratch cs m ≡ true → number_of a checked m ≡ number_of a checked n → ⊥
  no_scratch n m is scratch same =
      let kind = kind-named is_scratch cs m scratch in
      let one : Table ≡ kind.0 = kind_is Table kind.0 (sym is ∙ ap (kind_at cs) (sym same) ∙ kind.1) in
      let bad : is_scratch Table ≡ true = subst (λ (k : Kind). is_scratch k ≡ true) (sym one) kind.2 in
      true≢false (sym bad)

  table_grows : (n : Name) → kind_at cs (number_of a checked n) ≡ Some Table → Grows (base n)
  table_grows n is = record {
    later = table_later a checked n is;
    plain = refl;
    through = λ r stands scratch there. absurd (elim (from_name n r there) [
      | inl same ↦ no_scratch n r.0 is scratch same
      | inr p ↦ no_scratch n p.0.0 is p.1.scratch (named_number n p.0 p.1)
    ]);
  }

  -- a scratch whose rules grow
  scratch_up : (n : Name) → kind_at cs (number_of a checked n) ≡ Some Scratch → ((r : RuleForm) → Has r (rules_named a checked n) → Grows r.1) → Grows (base n)
  scratch_up n is each = record {
    later = false_from_ne_true (now a checked (base n)) (λ t. elim (name_now a checked n t) [
      | inl port ↦ (let bad : Scratch ≡ Input = kind_is Scratch Input (sym is ∙ port) in cc)
      | inr found ↦ both_ways (now a checked found.0.1) (each found.0 (own_rule n found.0 found.1 found.2)).later found.4
    ]);
    plain = refl;
    through = λ r stands scratch there. elim (from_name n r there) [
      | inl same ↦ (each r (own_rule n r stands same)).plain
      | inr p ↦ (each p.0 (own_rule n p.0 p.1.rule.stands (named_number n p.0 p.1))).through r stands scratch p.2
    ];
  }

  scratch_down : (n : Name) → kind_at cs (number_of a checked n) ≡ Some Scratch → Grows (base n) → (r : RuleForm) → Has r (rules_named a checked n) → Grows r.1
  scratch_down n is g r of_head =
      let s = rule_stands a checked (number_of a checked n) r of_head in
      let own : has_kind is_scratch cs r.0 ≡ true = named-kind is_scratch cs r.0 Scratch (ap (kind_at cs) s.1 ∙ is) refl in
      let here : meets (set_of_name cs r.0) (bit_of (number_of a checked n)) ≡ true = subst (λ (k : ℕ). meets (bit_of k) (bit_of (number_of a checked n)) ≡ true) (sym s.1) (own-in (number_of a checked n) (small_number a checked n)) in
      record {
        later = scratch_now a checked n is r of_head ∙ g.later;
        plain = g.through r s.0 own (direct_folds cs all_rules (base n) checked.few_collections (number_of a checked r.0) (small_number a checked r.0) (inl here));
        through = λ x stands scratch there. g.through x stands scratch (direct_folds cs all_rules (base n) checked.few_collections (number_of a checked x.0) (small_number a checked x.0)
            (inr (r, record { rule = record { stands = s.0; named = here }; scratch = own }, there)));
      }

  -- ---- a join

  from_join : (p q : Query) (pairs : List (Name × Name)) (r : RuleForm) → Reaches (join p q pairs) r → Reaches p r ⊎ Reaches q r
  from_join p q pairs r h =
      let k = number_of a checked r.0 in
      let small = small_number a checked r.0 in
      elim (direct_unfolds cs all_rules (join p q pairs) checked.few_collections k small h) [
        | inl t ↦ elim (or_cases _ _ (sym (in-or k (named cs p) (named cs q) small) ∙ t)) [
          | inl l ↦ inl (direct_folds cs all_rules p checked.few_collections k small (inl l))
          | inr m ↦ inr (direct_folds cs all_rules q checked.few_collections k small (inl m))
        ]
        | inr found ↦ elim (or_cases _ _ (sym (in-or (number_of a checked found.0.0) (named cs p) (named cs q) (small_number a checked found.0.0)) ∙ found.1.rule.named)) [
          | inl l ↦ inl (direct_folds cs all_rules p checked.few_collections k small (inr (found.0, record { rule = record { stands = found.1.rule.stands; named = l }; scratch = found.1.scratch }, found.2)))
          | inr m ↦ inr (direct_folds cs all_rules q checked.few_collections k small (inr (found.0, record { rule = record { stands = found.1.rule.stands; named = m }; scratch = found.1.scratch }, found.2)))
        ]
      ]

  in_left : (p q : Query) (pairs : List (Name × Name)) (r : RuleForm) → Reaches p r → Reaches (join p q pairs) r
  in_left p q pairs r h = in-within (number_of a checked r.0) (direct cs all_rules p) (direct cs all_rules (join p q pairs)) (small_number a checked r.0) h
      (least-monotone (named cs p) (bit_or (named cs p) (named cs q)) (scratch_arrows cs all_rules) _ _ (within-or_l (named cs p) (named cs q)) (closure-least (named cs p) (scratch_arrows cs all_rules)) (closure-least (bit_or (named cs p) (named cs q)) (scratch_arrows cs all_rules)))

  in_right : (p q : Query) (pairs : List (Name × Name)) (r : RuleForm) → Reaches q r → Reaches (join p q pairs) r
  in_right p q pairs r h = in-within (number_of a checked r.0) (direct cs all_rules q) (direct cs all_rules (join p q pairs)) (small_number a checked r.0) h
      (least-monotone (named cs q) (bit_or (named cs p) (named cs q)) (scratch_arrows cs all_rules) _ _ (within-or_r (named cs p) (named cs q)) (closure-least (named cs q) (scratch_arrows cs all_rules)) (closure-least (bit_or (named cs p) (named cs q)) (scratch_arrows cs all_rules)))

  join_up : (p q : Query) (pairs : List (Name × Name)) → Grows p → Grows q → Grows (join p q pairs)
  join_up p q pairs g h = record {
    later = false_from_ne_true (now a checked (join p q pairs)) (λ t. elim (join_now a checked p q pairs t) [ inl l ↦ both_ways (now a checked p) g.later l | inr r ↦ both_ways (now a checked q) h.later r ]);
    plain = and_from _ _ g.plain h.plain;
    through = λ r stands scratch there. elim (from_join p q pairs r there) [ inl l ↦ g.through r stands scratch l | inr m ↦ h.through r stands scratch m ];
  }

  left_down : (p q : Query) (pairs : List (Name × Name)) → Grows (join p q pairs) → Grows p
  left_down p q pairs g = record {
    later = false_from_ne_true (now a checked p) (λ t. both_ways (now a checked (join p q pairs)) g.later (left_now a checked p q pairs t));
    plain = (and_parts (is_plain p) (is_plain q) g.plain).0;
    through = λ r stands scratch there. g.through r stands scratch (in_left p q pairs r there);
  }

  right_down : (p q : Query) (pairs : List (Name × Name)) → Grows (join p q pairs) → Grows q
  right_down p q pairs g = record {
    later = false_from_ne_true (now a checked q) (λ t. both_ways (now a checked (join p q pairs)) g.later (right_now a checked p q pairs t));
    plain = (and_parts (is_plain p) (is_plain q) g.plain).1;
    through = λ r stands scratch there. g.through r stands scratch (in_right p q pairs r there);
  }

  join_is : (p q : Query) (pairs : List (Name × Name)) → (is_growing cs all_rules p && is_growing cs all_rules q) ≡ is_growing cs all_rules (join p q pairs)
  join_is p q pairs = same_truth (is_growing cs all_rules p && is_growing cs all_rules q) (is_growing cs all_rules (join p q pairs))
      (λ t. let both = and_parts (is_growing cs all_rules p) (is_growing cs all_rules q) t in from_grows (join p q pairs) (join_up p q pairs (to_grows p both.0) (to_grows q both.1)))
      (λ t. let g = to_grows (join p q pairs) t in and_from _ _ (from_grows p (left_down p q pairs g)) (from_grows q (right_down p q pairs g)))

  -- ---- by numbers

  module _ (growing : List Bool) where
    abbrev Marked : Name → Type 0
    Marked n = IsMarked a.form growing (number_of a checked n)

    name_is : (n : Name) → IsRead a checked n → Marked n → grows_at growing (number_of a checked n) ≡ is_growing cs all_rules (base n)
    name_is n (inl is) marked =
        marked ∙ ap (λ (o : Option Kind). kind_grows o (rules_grow a.form (number_of a checked n))) is
        ∙ sym (ap (λ (b : Bool). not b && is_free cs all_rules (base n)) (port_now a checked (base n) n (named_in a checked (base n) n (inl refl)) is))
    name_is n (inr (inl is)) marked =
        marked ∙ ap (λ (o : Option Kind). kind_grows o (rules_grow a.form (number_of a checked n))) is
        ∙ sym (from_grows (base n) (table_grows n is))
    name_is n (inr (inr is)) marked =
        marked ∙ ap (λ (o : Option Kind). kind_grows o (rules_grow a.form (number_of a checked n))) is
        ∙ same_truth (rules_grow a.form (number_of a checked n)) (is_growing cs all_rules (base n))
        (λ t. from_grows (base n) (scratch_up n is (λ r of_head. to_grows r.1 (all_member (λ (rule : RuleForm). is_growing cs all_rules rule.1) (rules_named a checked n) r t of_head))))
        (λ t. all_from (λ (rule : RuleForm). is_growing cs all_rules rule.1) (rules_named a checked n) (λ r of_head. from_grows r.1 (scratch_down n is (to_grows (base n) t) r of_head)))

    -- the names of an expression are read and marked
    abbrev pub AreKnown : Query → Type 0
    AreKnown q = (n : Name) → Has n (names_of q) → IsRead a checked n × Marked n

    pub expr_is : (q : Query) (e : NumberedExpr) → AreKnown q → IsNumbered cs q e → grows growing e ≡ is_growing cs all_rules q
    expr_is (base name) (Base number) known is = ap (grows_at growing) is ∙ name_is name (known name (inl refl)).0 (known name (inl refl)).1
    expr_is (select q f) (Select' p e test) known is = expr_is q e known is.0
    expr_is (project q items) (Project' p e columns) known is = expr_is q e known is.0
    expr_is (join left right pairs) (Join' p l q r numbers) known is =
        let first = expr_is left l (λ n h. known n (Has-append_left n (names_of left) (names_of right) h)) is.0 in
        let second = expr_is right r (λ n h. known n (Has-append_right n (names_of left) (names_of right) h)) is.1 in
        (λ i. first i && second i) ∙ join_is left right pairs
    expr_is (notin left right pairs) (NotIn' p l q r numbers) known is = sym (stopped (not (now a checked (notin left right pairs))) (list_all (λ (x : RuleForm). is_plain x.1) (scratch_rules_read cs all_rules (notin left right pairs))))
    expr_is (group q keys agg name) (Group' p e numbers by) known is = sym (stopped (not (now a checked (group q keys agg name))) (list_all (λ (x : RuleForm). is_plain x.1) (scratch_rules_read cs all_rules (group q keys agg name))))
    expr_is (at_least q keys bound) (AtLeast' p e numbers count) known is = expr_is q e known is.0
    expr_is q e known is = absurd is

    -- all rules of a head grow by numbers where all of them are growing
    pub head_is : (head : ℕ) (rules : List NumberedRule) → AreNumbered cs all_rules rules → AreMarkedBelow a.form growing head → list_all (grows_for growing head) rules ≡ rules_grow a.form head
    head_is head rules all marked = rules_are cs (λ (r : RuleForm). is_growing cs all_rules r.1) (λ (rule : NumberedRule). grows growing rule.body) head all_rules rules all (λ form rule of_head numbered.
        expr_is form.1 rule.body (λ n h. (reads a checked form (rule_stands a checked head form of_head).0 n h, marked form n of_head h)) numbered.body)

    -- ---- where all collections are marked

    module _ (are : AreGrowing a growing) where
      pub rule_known : (rule : RuleForm) → Has rule all_rules → AreKnown rule.1
      rule_known rule stands n h = (reads a checked rule stands n h, are.each (number_of a checked n))

      pub body_is : (rule : RuleForm) → Has rule all_rules → (e : NumberedExpr) → IsNumbered cs rule.1 e → grows growing e ≡ is_growing cs all_rules rule.1
      body_is rule stands e is = expr_is rule.1 e (rule_known rule stands) is

-- the bodies of a head that grows, and is no table, grow
pub bodies_grow : (a : Accepted) (growing : List Bool) → IsChecked a.form a.heads → AreGrowing a growing → (head : ℕ) → kind_at a.form.collections head ≢ Some Table → IsTrue (grows_at growing head)
    → (rule : RuleForm) → Has rule (rules_at a.form.collections a.form.rules head) → (e : NumberedExpr) → IsNumbered a.form.collections rule.1 e → IsTrue (grows growing e)
bodies_grow a growing checked are head other marked rule of_head e is =
    body_is a checked growing are rule (rule_stands a checked head rule of_head).0 e is
    ∙ all_member (λ (r : RuleForm). is_growing a.form.collections a.form.rules r.1) (rules_at a.form.collections a.form.rules head) rule (rules_pass (kind_at a.form.collections head) (rules_grow a.form head) other (sym (are.each head) ∙ marked)) of_head
