-- The good tables, found along the heads, are those from which nothing bad is read.
use Rattle.std.proofs.Common.{◌≡◌, ◌≢◌, ◌≤◌, ◌<◌, ◌&&◌, not, ◌⊎◌, inl, inr, ℕ, zero, suc, Bool, true, false, if◌then◌else◌, bit_or, None, Some, List, [], ◌∷◌, length, refl, arith, ap, sym, subst, ◌∙◌}
use Rattle.std.specs.List.{list_all, fold}
use Rattle.std.proofs.lemmas.Bool.{cases_eq, true≢false, false_from_ne_true}
use Rattle.blz_value.specs.Members.{Has}
use Rattle.blz_value.proofs.Membership.{all_member, all_from}
use Rattle.blz_value.specs.Bits.{bit_of, meets}
use Rattle.blz_value.specs.Closure.{within, IsClosed, IsLeastClosed}
use Rattle.blz_value.proofs.Within.{within-trans, within-or_l, and-within_r}
use Rattle.blz_value.proofs.Members.{meets-within, in-within, in-empty, in-bit_same, in-bit_other, member_small}
use Rattle.blz_value.proofs.Least.{closure-least}
use Rattle.blz_value.proofs.Reached.{closed-map}
use Rattle.bloom_forms.proofs.Reach.Quiet.{only_input}
use Rattle.bloom_forms.proofs.Reach.MomentaryLemmas.{kind_is}
use Rattle.bloom_forms.specs.declared.module.Kind.TheVariants.{Input, Table}
use Rattle.bloom_forms.specs.declared.module.Collection.{Collection}
use Rattle.bloom_forms.specs.Checks.{IsRule, IsChecked}
use Rattle.bloom_forms.specs.Form.{RuleForm, Form, Accepted}
use Rattle.bloom_forms.specs.Heads.{names_of, InOrder, IsOrdered}
use Rattle.bloom_forms.specs.Kinds.{same_kind, kind_at, has_kind, is_input, is_head, is_readable}
use Rattle.bloom_forms.specs.Lookup.{collection_number}
use Rattle.bloom_forms.specs.Query.{Name, Query}
use Rattle.bloom_forms.specs.Reads.{set_of_name, named, arrow, arrows, cone, direct, kind_set}
use Rattle.bloom_forms.specs.Step.{rules_at}
use Rattle.bloom_forms.proofs.Collections.Numbers.{get-within, derived_or, derived-no_port}
use Rattle.bloom_forms.proofs.Collections.KindSets.{kind-within, small_kind, kind-named, in_kind_set, from_kind_set, is_table}
use Rattle.bloom_forms.proofs.Reach.Cones.{named-within, direct-cone, small_name, closed_from}
use Rattle.bloom_forms.specs.Good.{all_tables, tables_read, is_good_rule, has_good_rules, with_good, good_tables}
use Rattle.bloom_forms.specs.ReadLaws.{GoodByRules, OnlyTablesAreGood, GoodByClosure, ReadsGoodByClosure}
use Rattle.bloom_forms.proofs.Reach.ClosedFormsLemmas.{reaches_bad, rule_of, reads_good-is, good_rules-is}
use Rattle.bloom_forms.proofs.Reach.Behind.{from_tables_read}

-- kinds

kind_there : (cs : List Collection) (n : ℕ) → n < length cs → kind_at cs n ≡ None → ⊥
kind_there [] n lt none = absurd (omega arith)
kind_there (c ∷ cs) zero lt none = let bad : Some c.kind ≡ None = none in cc
kind_there (c ∷ cs) (suc n) lt none = kind_there cs n (omega arith) none

module _ (cs : List Collection) (rules : List RuleForm) where
  -- a set that has the ports and the heads taken so far: what it has reads nothing else
  pub record IsDone (done : ℕ) (heads : List ℕ) : Type 0 where
    pub closed : IsClosed (arrows cs rules) done
    pub cover : (n : ℕ) → n < length cs → (meets (bit_of n) done ≡ true) ⊎ Has n heads
    pub apart : (n : ℕ) → Has n heads → meets (bit_of n) done ≡ false

  -- of these the good tables are found
  pub record IsFound (good done : ℕ) : Type 0 where
    pub agrees : (t : ℕ) → t < 64 → kind_at cs t ≡ Some Table → meets (bit_of t) done ≡ true → meets (bit_of t) good ≡ not (reaches_bad cs rules t)
    pub tables : (n : ℕ) → n < 64 → meets (bit_of n) good ≡ true → kind_at cs n ≡ Some Table
    pub inside : (n : ℕ) → n < 64 → meets (bit_of n) good ≡ true → meets (bit_of n) done ≡ true

module _ (cs : List Collection) (rules : List RuleForm) (few : length cs ≤ 32) (each : (r : RuleForm) → Has r rules → IsRule cs rules r) where
  -- the ports, before the first head

  no_head : (r : RuleForm) → Has r rules → meets (set_of_name cs r.0) (kind_set is_input cs) ≡ true → ⊥
  no_head r stands h =
      let port = from_kind_set is_input cs (collection_number cs r.0) (small_name cs rules few r.0) h in
      let head = kind-named is_head cs r.0 (each r stands).head in
      let same : port.0 ≡ head.0 = kind_is port.0 head.0 (sym port.1 ∙ head.1) in
      let input : head.0 ≡ Input = sym same ∙ only_input port.0 port.2 in
      true≢false (sym head.2 ∙ ap is_head input)

  done_first : (heads : List ℕ) → IsOrdered cs rules heads → IsDone cs rules (kind_set is_input cs) heads
  done_first heads ordered = record {
    closed = closed_from cs rules few (kind_set is_input cs) (λ r stands h. absurd (no_head r stands h));
    cover = cover;
    apart = λ n stands. false_from_ne_true (meets (bit_of n) (kind_set is_input cs)) (λ h. not_port n stands h);
  }
    where
      cover : (n : ℕ) → n < length cs → (meets (bit_of n) (kind_set is_input cs) ≡ true) ⊎ Has n heads
      cover n lt = elim (derived_or cs n) [
        | inl derived ↦ inr (ordered.all n derived)
        | inr other ↦ elim other [ inl none ↦ absurd (kind_there cs n lt none) | inr port ↦ inl (in_kind_set is_input cs n Input (omega (arith, few)) port refl) ]
      ]

      not_port : (n : ℕ) → Has n heads → meets (bit_of n) (kind_set is_input cs) ≡ true → ⊥
      not_port n stands h =
          let derived = ordered.none_else n stands in
          let lt : n < length cs = get-within cs n derived.collection derived.stands in
          let port = from_kind_set is_input cs n (omega (arith, few)) h in
          derived-no_port cs n derived (port.1 ∙ ap Some (only_input port.0 port.2))

  found_first : IsFound cs rules 0 (kind_set is_input cs)
  found_first = record {
    agrees = λ t lt is there. absurd (no_table t lt is there);
    tables = λ n lt t. absurd (true≢false (sym t ∙ in-empty n));
    inside = λ n lt t. absurd (true≢false (sym t ∙ in-empty n));
  }
    where
      no_table : (t : ℕ) → t < 64 → kind_at cs t ≡ Some Table → meets (bit_of t) (kind_set is_input cs) ≡ true → ⊥
      no_table t lt is there =
          let port = from_kind_set is_input cs t lt there in
          let same : Table ≡ port.0 = kind_is Table port.0 (sym is ∙ port.1) in
          let bad : Table ≡ Input = same ∙ only_input port.0 port.2 in cc

  -- one head more

  module _ (h : ℕ) (heads : List ℕ) (order : InOrder cs rules (h ∷ heads)) (within_cs : (n : ℕ) → Has n (h ∷ heads) → n < length cs) (done : ℕ) (is : IsDone cs rules done (h ∷ heads)) where
    small_head : (n : ℕ) → Has n (h ∷ heads) → n < 64
    small_head n stands = omega (arith, within_cs n stands, few)

    -- what a rule of the head names is there
    body_done : (r : RuleForm) → Has r rules → collection_number cs r.0 ≡ h → within (named cs r.1) done ≡ true
    body_done r stands head = named-within cs done r.1 there
      where
        there : (name : Name) → Has name (names_of r.1) → meets (set_of_name cs name) done ≡ true
        there name read =
            let found = kind-named is_readable cs name (all_member (has_kind is_readable cs) (names_of r.1) name (each r stands).known read) in
            elim (is.cover (collection_number cs name) (kind-within cs (collection_number cs name) found.0 found.1)) [
              | inl t ↦ t
              | inr later ↦ absurd (order.1 (collection_number cs name) later (record { rule = r; stands = stands; head = head; name = name; read = read; is = refl }))
            ]

    -- what a rule of the head reads is there
    tables_done : (r : RuleForm) → Has r (rules_at cs rules h) → within (tables_read cs rules r.1) done ≡ true
    tables_done r of_head =
        let stands = rule_of cs rules h r of_head in
        let all : IsLeastClosed (named cs r.1) (arrows cs rules) (cone cs rules r.1) = closure-least (named cs r.1) (arrows cs rules) in
        let inside : within (cone cs rules r.1) done ≡ true = all.least done (body_done r stands.0 stands.1) is.closed in
        within-trans (tables_read cs rules r.1) (direct cs rules r.1) done (and-within_r (all_tables cs) (direct cs rules r.1)) (within-trans (direct cs rules r.1) (cone cs rules r.1) done (direct-cone cs rules r.1) inside)

    other_head : (n : ℕ) → Has n heads → n ≢ h
    other_head n stands e = order.0 (subst (λ (k : ℕ). Has k heads) e stands)

    done_next : IsDone cs rules (bit_or done (bit_of h)) heads
    done_next = record { closed = closed_from cs rules few (bit_or done (bit_of h)) to; cover = cover; apart = apart }
      where
        to : (r : RuleForm) → Has r rules → meets (set_of_name cs r.0) (bit_or done (bit_of h)) ≡ true → within (named cs r.1) (bit_or done (bit_of h)) ≡ true
        to r stands there = elim (cases_eq (collection_number cs r.0) h) [
          | inl e ↦ within-trans (named cs r.1) done (bit_or done (bit_of h)) (body_done r stands e) (within-or_l done (bit_of h))
          | inr ne ↦
              let old : meets (set_of_name cs r.0) done ≡ true = sym (in-bit_other (collection_number cs r.0) h done (small_name cs rules few r.0) (small_head h (inl refl)) ne) ∙ there in
              within-trans (named cs r.1) done (bit_or done (bit_of h)) (closed-map (arrow cs) rules done is.closed r stands (meets-within (collection_number cs r.0) done old)) (within-or_l done (bit_of h))
        ]

        cover : (n : ℕ) → n < length cs → (meets (bit_of n) (bit_or done (bit_of h)) ≡ true) ⊎ Has n heads
        cover n lt = elim (is.cover n lt) [
          | inl t ↦ inl (in-within n done (bit_or done (bit_of h)) (omega (arith, few)) t (within-or_l done (bit_of h)))
          | inr stands ↦ elim stands [
            | inl e ↦ inl (subst (λ (k : ℕ). meets (bit_of k) (bit_or done (bit_of h)) ≡ true) e (in-bit_same h done (small_head h (inl refl))))
            | inr later ↦ inr later
          ]
        ]

        apart : (n : ℕ) → Has n heads → meets (bit_of n) (bit_or done (bit_of h)) ≡ false
        apart n stands = in-bit_other n h done (small_head n (inr stands)) (small_head h (inl refl)) (other_head n stands) ∙ is.apart n (inr stands)

    -- the head is good where it is a table from which nothing bad is read
    module _ (good : ℕ) (found : IsFound cs rules good done) where
      head_rules : kind_at cs h ≡ Some Table → list_all (λ rule. is_good_rule cs rules good rule.1) (rules_at cs rules h) ≡ not (reaches_bad cs rules h)
      head_rules table = good_rules-is cs rules few each good h (small_head h (inl refl)) table (λ r of_head u lt read.
          let there : meets (bit_of u) done ≡ true = in-within u (tables_read cs rules r.1) done lt read (tables_done r of_head) in
          found.agrees u lt (from_tables_read cs rules r.1 u lt read).0 there)

      not_yet : meets (bit_of h) good ≡ false
      not_yet = false_from_ne_true (meets (bit_of h) good) (λ t. true≢false (sym (found.inside h (small_head h (inl refl)) t) ∙ is.apart h (inl refl)))

      -- the new set, by what it has of the head
      found_next : (next : ℕ) → ((n : ℕ) → n < 64 → n ≢ h → meets (bit_of n) next ≡ meets (bit_of n) good)
          → (kind_at cs h ≡ Some Table → meets (bit_of h) next ≡ not (reaches_bad cs rules h)) → (meets (bit_of h) next ≡ true → kind_at cs h ≡ Some Table) → IsFound cs rules next (bit_or done (bit_of h))
      found_next next same own table = record { agrees = agrees; tables = tables; inside = inside }
        where
          agrees : (t : ℕ) → t < 64 → kind_at cs t ≡ Some Table → meets (bit_of t) (bit_or done (bit_of h)) ≡ true → meets (bit_of t) next ≡ not (reaches_bad cs rules t)
          agrees t lt is_t there = elim (cases_eq t h) [
            | inl e ↦ subst (λ (k : ℕ). kind_at cs k ≡ Some Table → meets (bit_of k) next ≡ not (reaches_bad cs rules k)) (sym e) own is_t
            | inr ne ↦ same t lt ne ∙ found.agrees t lt is_t (sym (in-bit_other t h done lt (small_head h (inl refl)) ne) ∙ there)
          ]

          tables : (n : ℕ) → n < 64 → meets (bit_of n) next ≡ true → kind_at cs n ≡ Some Table
          tables n lt t = elim (cases_eq n h) [
            | inl e ↦ subst (λ (k : ℕ). meets (bit_of k) next ≡ true → kind_at cs k ≡ Some Table) (sym e) table t
            | inr ne ↦ found.tables n lt (sym (same n lt ne) ∙ t)
          ]

          inside : (n : ℕ) → n < 64 → meets (bit_of n) next ≡ true → meets (bit_of n) (bit_or done (bit_of h)) ≡ true
          inside n lt t = elim (cases_eq n h) [
            | inl e ↦ subst (λ (k : ℕ). meets (bit_of k) (bit_or done (bit_of h)) ≡ true) (sym e) (in-bit_same h done (small_head h (inl refl)))
            | inr ne ↦ in-within n done (bit_or done (bit_of h)) lt (found.inside n lt (sym (same n lt ne) ∙ t)) (within-or_l done (bit_of h))
          ]

      table_there : kind_at cs h ≡ Some Table → meets (bit_of h) (all_tables cs) ≡ true
      table_there table = in_kind_set (same_kind Table) cs h Table (small_head h (inl refl)) table refl

      there_table : meets (bit_of h) (all_tables cs) ≡ true → kind_at cs h ≡ Some Table
      there_table t = let of_kind = from_kind_set (same_kind Table) cs h (small_head h (inl refl)) t in of_kind.1 ∙ ap Some (is_table of_kind.0 of_kind.2)

      found_with : (tables rules_good : Bool) → meets (bit_of h) (all_tables cs) ≡ tables → list_all (λ rule. is_good_rule cs rules good rule.1) (rules_at cs rules h) ≡ rules_good
          → IsFound cs rules (if tables && rules_good then bit_or good (bit_of h) else good) (bit_or done (bit_of h))
      found_with true true t g = found_next (bit_or good (bit_of h))
          (λ n lt ne. in-bit_other n h good lt (small_head h (inl refl)) ne)
          (λ table. in-bit_same h good (small_head h (inl refl)) ∙ sym g ∙ head_rules table)
          (λ there. there_table t)
      found_with true false t g = found_next good (λ n lt ne. refl)
          (λ table. not_yet ∙ sym g ∙ head_rules table)
          (λ there. absurd (true≢false (sym there ∙ not_yet)))
      found_with false rules_good t g = found_next good (λ n lt ne. refl)
          (λ table. absurd (true≢false (sym (table_there table) ∙ t)))
          (λ there. absurd (true≢false (sym there ∙ not_yet)))

-- the heads one after the other

module _ (form : Form) (few : length form.collections ≤ 32) (each : (r : RuleForm) → Has r form.rules → IsRule form.collections form.rules r) where
  -- all collections are done, and the good tables are found
  pub record IsAllFound (good : ℕ) : Type 0 where
    pub done : ℕ
    pub cover : (n : ℕ) → n < length form.collections → meets (bit_of n) done ≡ true
    pub found : IsFound form.collections form.rules good done

  all_found : (heads : List ℕ) → InOrder form.collections form.rules heads → ((n : ℕ) → Has n heads → n < length form.collections) → (done good : ℕ) → IsDone form.collections form.rules done heads → IsFound form.collections form.rules good done → IsAllFound (fold (with_good form) good heads)
  all_found [] order below done good is found = record { done = done; cover = λ n lt. elim (is.cover n lt) [ inl t ↦ t | inr none ↦ absurd none ]; found = found }
  all_found (h ∷ heads) order below done good is found =
      all_found heads order.2 (λ n stands. below n (inr stands)) (bit_or done (bit_of h)) (with_good form good h)
      (done_next form.collections form.rules few each h heads order below done is)
      (found_with form.collections form.rules few each h heads order below done is good found (meets (bit_of h) (all_tables form.collections)) (has_good_rules form good h) refl refl)

-- ---- the law

module _ (a : Accepted) (checked : IsChecked a.form a.heads) where
  abbrev cs : List Collection
  cs = a.form.collections

  abbrev rules : List RuleForm
  rules = a.form.rules

  found_all : IsAllFound a.form checked.few_collections checked.rules (good_tables a)
  found_all = all_found a.form checked.few_collections checked.rules a.heads checked.ordered.order
      (λ n stands. let derived = checked.ordered.none_else n stands in get-within cs n derived.collection derived.stands)
      (kind_set is_input cs) 0
      (done_first cs rules checked.few_collections checked.rules a.heads checked.ordered)
      (found_first cs rules checked.few_collections checked.rules)

  pub good_by_closure : GoodByClosure a
  good_by_closure t is = found_all.found.agrees t (small_kind cs checked.few_collections t Table is) is (found_all.cover t (kind-within cs t Table is))

  pub only_tables_are_good : OnlyTablesAreGood a
  only_tables_are_good n good = found_all.found.tables n (member_small n (good_tables a) good) good

  agree : (q : Query) (u : ℕ) → u < 64 → meets (bit_of u) (tables_read cs rules q) ≡ true → meets (bit_of u) (good_tables a) ≡ not (reaches_bad cs rules u)
  agree q u lt read = good_by_closure u (from_tables_read cs rules q u lt read).0

  pub reads_good_by_closure : ReadsGoodByClosure a
  reads_good_by_closure q = reads_good-is cs rules checked.few_collections (good_tables a) q (agree q)

  same_rules : (t : ℕ) → kind_at cs t ≡ Some Table → meets (bit_of t) (good_tables a) ≡ has_good_rules a.form (good_tables a) t
  same_rules t is = good_by_closure t is ∙ sym (good_rules-is cs rules checked.few_collections checked.rules (good_tables a) t (small_kind cs checked.few_collections t Table is) is (λ r of_table. agree r.1))

  pub good_by_rules : GoodByRules a
  good_by_rules t is = (
    λ good r of_table. all_member (λ rule. is_good_rule cs rules (good_tables a) rule.1) (rules_at cs rules t) r (sym (same_rules t is) ∙ good) of_table,
    λ have. same_rules t is ∙ all_from (λ rule. is_good_rule cs rules (good_tables a) rule.1) (rules_at cs rules t) have,
  )
