-- A table is good exactly where no table that it reads through others has a rule that no good table may have.
use Rattle.std.proofs.Common.{◌≡◌, ◌≤◌, ◌<◌, ◌||◌, ◌&&◌, not, ◌⊎◌, inl, inr, ℕ, Bool, true, false, if◌then◌else◌, Some, List, length, refl, arith, ap, sym, subst, ◌∙◌}
use Rattle.std.specs.Prelude.{◌==◌}
use Rattle.std.specs.Cmp.{both_ways}
use Rattle.std.specs.Int.{IsBitSet}
use Rattle.std.specs.List.{list_all}
use Rattle.std.proofs.lemmas.Bool.{cases_Bool, and_parts, and_from, eqb-true, eq-eqb, true≢false, false_from_ne_true, not-true, not_from_false, not_from_true}
use Rattle.blz_value.specs.Members.{Has}
use Rattle.blz_value.proofs.Membership.{Has-filter, Has-from_filter, all_member, all_from}
use Rattle.blz_value.specs.Bits.{bit_of, meets}
use Rattle.blz_value.specs.Closure.{within, closure}
use Rattle.blz_value.proofs.Within.{within-bits, bits-within, and-within_l, and-within_r}
use Rattle.blz_value.proofs.Members.{meets-some, some-meets, in-bit, bit-in, in-within}
use Rattle.blz_value.proofs.Reached.{closure-self}
use Rattle.bloom_forms.specs.declared.module.Kind.TheVariants.{Table}
use Rattle.bloom_forms.specs.declared.module.Collection.{Collection}
use Rattle.bloom_forms.specs.Checks.{IsRule}
use Rattle.bloom_forms.specs.Form.{RuleForm}
use Rattle.bloom_forms.specs.Kinds.{same_kind, kind_at, has_kind}
use Rattle.bloom_forms.specs.Lookup.{collection_number}
use Rattle.bloom_forms.specs.Query.{Query}
use Rattle.bloom_forms.specs.Reads.{arrows, cone, direct, is_momentary}
use Rattle.bloom_forms.specs.Step.{rules_at}
use Rattle.bloom_forms.specs.Plain.{is_free}
use Rattle.bloom_forms.proofs.Reach.Unfolding.{bit_small}
use Rattle.bloom_forms.proofs.Collections.Chosen.{from_chosen, in_chosen, chosen-lt}
use Rattle.bloom_forms.proofs.Collections.KindSets.{kind-named, named-kind, kind_set-lt, is_table}
use Rattle.bloom_forms.proofs.Reach.Cones.{from_closure, in_closure, IsReadByRule, from_head, in_head}
use Rattle.bloom_forms.specs.ClosedForms.{behind, is_bad_rule, spoils, bad_tables}
use Rattle.bloom_forms.specs.Good.{all_tables, tables_read, reads_table, reads_good, is_good_rule}
use Rattle.bloom_forms.proofs.Reach.Behind.{behind-cone, table-behind, in_cone}

-- a rule is one that a good table may have where it isn't bad and reads good tables alone
good_parts : (momentary reads free good : Bool) → (reads ≡ false → good ≡ true)
    → (if momentary then not reads else good && free) ≡ (not (if momentary then reads else not free) && good)
good_parts true true free good none = refl
good_parts true false free good none = sym (none refl)
good_parts false reads true true none = refl
good_parts false reads true false none = refl
good_parts false reads false true none = refl
good_parts false reads false false none = refl

module _ (cs : List Collection) (rules : List RuleForm) where
  -- of a table: a table that is read from it, itself included, is bad
  abbrev pub reaches_bad : ℕ → Bool
  reaches_bad t = meets (bad_tables cs rules) (closure (bit_of t) (arrows cs rules))

  -- the tables that an expression reads are told by their numbers

  bits_of_tables : (q : Query) (k : ℕ) → IsBitSet (tables_read cs rules q) k → IsBitSet (all_tables cs) k × IsBitSet (direct cs rules q) k
  bits_of_tables q k set = (
    bits-within (tables_read cs rules q) (all_tables cs) (and-within_l (all_tables cs) (direct cs rules q)) k set,
    bits-within (tables_read cs rules q) (direct cs rules q) (and-within_r (all_tables cs) (direct cs rules q)) k set,
  )

  within_tables : (q : Query) (s : ℕ) → ((t : ℕ) → t < 64 → meets (bit_of t) (tables_read cs rules q) ≡ true → meets (bit_of t) s ≡ true) → within (tables_read cs rules q) s ≡ true
  within_tables q s each = within-bits (tables_read cs rules q) s (λ k set.
      let small : k < 64 = bit_small (all_tables cs) k (kind_set-lt (same_kind Table) cs) (bits_of_tables q k set).0 in
      in-bit k s small (each k small (bit-in k (tables_read cs rules q) small set)))

  no_tables : (q : Query) (s : ℕ) → reads_table cs rules q ≡ false → within (tables_read cs rules q) s ≡ true
  no_tables q s none = within-bits (tables_read cs rules q) s (λ k set.
      let both = bits_of_tables q k set in
      absurd (true≢false (sym (some-meets (all_tables cs) (direct cs rules q) k both.0 both.1) ∙ none)))

  -- bad tables

  some_bad : (s : ℕ) → meets (bad_tables cs rules) s ≡ true → (n : ℕ) × (n < 64) × (meets (bit_of n) (bad_tables cs rules) ≡ true) × (meets (bit_of n) s ≡ true)
  some_bad s h =
      let found = meets-some (bad_tables cs rules) s h in
      let small : found.0 < 64 = bit_small (bad_tables cs rules) found.0 (chosen-lt (spoils cs rules) (λ (r : RuleForm). collection_number cs r.0) rules) found.1.0 in
      (found.0, small, bit-in found.0 (bad_tables cs rules) small found.1.0, bit-in found.0 s small found.1.1)

  meets_bad : (s n : ℕ) → n < 64 → meets (bit_of n) (bad_tables cs rules) ≡ true → meets (bit_of n) s ≡ true → meets (bad_tables cs rules) s ≡ true
  meets_bad s n lt bad there = some-meets (bad_tables cs rules) s n (in-bit n (bad_tables cs rules) lt bad) (in-bit n s lt there)

  -- a table with a bad rule
  pub record IsBadTable (n : ℕ) : Type 0 where
    pub table : kind_at cs n ≡ Some Table
    pub rule : RuleForm
    pub of_table : Has rule (rules_at cs rules n)
    pub bad : is_bad_rule cs rules rule.1 ≡ true

  from_bad : (n : ℕ) → n < 64 → meets (bit_of n) (bad_tables cs rules) ≡ true → IsBadTable n
  from_bad n lt h =
      let c = from_chosen (spoils cs rules) (λ (r : RuleForm). collection_number cs r.0) rules n lt h in
      let both = and_parts (has_kind (same_kind Table) cs c.element.0) (is_bad_rule cs rules c.element.1) c.passes in
      let found = kind-named (same_kind Table) cs c.element.0 both.0 in
      let table : kind_at cs (collection_number cs c.element.0) ≡ Some Table = found.1 ∙ ap Some (is_table found.0 found.2) in
      record {
        table = subst (λ (k : ℕ). kind_at cs k ≡ Some Table) c.is table;
        rule = c.element;
        of_table = Has-filter (λ (rule : RuleForm). collection_number cs rule.0 == n) c.element rules c.stands (eq-eqb (collection_number cs c.element.0) n c.is);
        bad = both.1;
      }

  -- a rule of a collection
  pub rule_of : (t : ℕ) (r : RuleForm) → Has r (rules_at cs rules t) → Has r rules × (collection_number cs r.0 ≡ t)
  rule_of t r of_head = let kept = Has-from_filter (λ (rule : RuleForm). collection_number cs rule.0 == t) r rules of_head in (kept.0, eqb-true (collection_number cs r.0) t kept.1)

  in_bad : (t : ℕ) (r : RuleForm) → t < 64 → kind_at cs t ≡ Some Table → Has r (rules_at cs rules t) → is_bad_rule cs rules r.1 ≡ true → meets (bit_of t) (bad_tables cs rules) ≡ true
  in_bad t r lt is of_table bad =
      let stands = rule_of t r of_table in
      let here : kind_at cs (collection_number cs r.0) ≡ Some Table = rw stands.1 is in
      let small : collection_number cs r.0 < 64 = omega (arith, stands.1, lt) in
      let there : meets (bit_of (collection_number cs r.0)) (bad_tables cs rules) ≡ true = in_chosen (spoils cs rules) (λ (rule : RuleForm). collection_number cs rule.0) rules r stands.0 (and_from (has_kind (same_kind Table) cs r.0) (is_bad_rule cs rules r.1) (named-kind (same_kind Table) cs r.0 Table here refl) bad) small in
      subst (λ (k : ℕ). meets (bit_of k) (bad_tables cs rules) ≡ true) stands.1 there

module _ (cs : List Collection) (rules : List RuleForm) (few : length cs ≤ 32) where
  -- a rule of the table that is bad, or behind which a bad table is
  pub record HasSpoiledRule (t : ℕ) : Type 0 where
    pub rule : RuleForm
    pub of_table : Has rule (rules_at cs rules t)
    pub spoiled : (is_bad_rule cs rules rule.1 ≡ true) ⊎ (meets (bad_tables cs rules) (behind cs rules rule.1) ≡ true)

  pub in_reach : (t : ℕ) → t < 64 → kind_at cs t ≡ Some Table → HasSpoiledRule t → reaches_bad cs rules t ≡ true
  in_reach t lt is h = by_cause h.spoiled
    where
      by_cause : (is_bad_rule cs rules h.rule.1 ≡ true) ⊎ (meets (bad_tables cs rules) (behind cs rules h.rule.1) ≡ true) → reaches_bad cs rules t ≡ true
      by_cause (inl bad) = meets_bad cs rules (closure (bit_of t) (arrows cs rules)) t lt (in_bad cs rules t h.rule lt is h.of_table bad) (closure-self (arrows cs rules) t lt)
      by_cause (inr there) =
          let n = some_bad cs rules (behind cs rules h.rule.1) there in
          let in_cone : meets (bit_of n.0) (cone cs rules h.rule.1) ≡ true = in-within n.0 (behind cs rules h.rule.1) (cone cs rules h.rule.1) n.1 n.3 (behind-cone cs rules h.rule.1) in
          meets_bad cs rules (closure (bit_of t) (arrows cs rules)) n.0 n.1 n.2 (in_head cs rules few t n.0 n.1 (record { rule = h.rule; of_head = h.of_table; there = in_cone }))

  -- all tables that an expression reads are in the set exactly where nothing behind it is bad, if of these tables the set has those from which nothing bad is read
  pub reads_good-is : (s : ℕ) (q : Query) → ((u : ℕ) → u < 64 → meets (bit_of u) (tables_read cs rules q) ≡ true → meets (bit_of u) s ≡ not (reaches_bad cs rules u))
      → reads_good cs rules s q ≡ not (meets (bad_tables cs rules) (behind cs rules q))
  reads_good-is s q agree = both_ways (reads_good cs rules s q) (not (meets (bad_tables cs rules) (behind cs rules q))) forth back
    where
      clean : reads_good cs rules s q ≡ true → meets (bad_tables cs rules) (behind cs rules q) ≡ true → ⊥
      clean good bad =
          let n = some_bad cs rules (behind cs rules q) bad in
          let t = from_closure cs rules few (tables_read cs rules q) n.0 n.1 n.3 in
          let reaches : reaches_bad cs rules t.0 ≡ true = meets_bad cs rules (closure (bit_of t.0) (arrows cs rules)) n.0 n.1 n.2 t.3 in
          let there : meets (bit_of t.0) s ≡ true = in-within t.0 (tables_read cs rules q) s t.1 t.2 good in
          true≢false (sym there ∙ agree t.0 t.1 t.2 ∙ not_from_true (reaches_bad cs rules t.0) reaches)

      forth : reads_good cs rules s q ≡ true → not (meets (bad_tables cs rules) (behind cs rules q)) ≡ true
      forth good = not_from_false _ (false_from_ne_true (meets (bad_tables cs rules) (behind cs rules q)) (clean good))

      reaches_none : meets (bad_tables cs rules) (behind cs rules q) ≡ false → (u : ℕ) → u < 64 → meets (bit_of u) (tables_read cs rules q) ≡ true → reaches_bad cs rules u ≡ true → ⊥
      reaches_none none u lt read reaches =
          let n = some_bad cs rules (closure (bit_of u) (arrows cs rules)) reaches in
          let there : meets (bit_of n.0) (behind cs rules q) ≡ true = in_closure cs rules few (tables_read cs rules q) u n.0 lt n.1 read n.3 in
          true≢false (sym (meets_bad cs rules (behind cs rules q) n.0 n.1 n.2 there) ∙ none)

      back : not (meets (bad_tables cs rules) (behind cs rules q)) ≡ true → reads_good cs rules s q ≡ true
      back none = within_tables cs rules q s (λ u lt read. agree u lt read ∙ not_from_false (reaches_bad cs rules u) (false_from_ne_true (reaches_bad cs rules u) (reaches_none (not-true _ none) u lt read)))

  good_rule-is : (s : ℕ) (q : Query) → ((u : ℕ) → u < 64 → meets (bit_of u) (tables_read cs rules q) ≡ true → meets (bit_of u) s ≡ not (reaches_bad cs rules u))
      → is_good_rule cs rules s q ≡ (not (is_bad_rule cs rules q) && not (meets (bad_tables cs rules) (behind cs rules q)))
  good_rule-is s q agree =
      good_parts (is_momentary cs rules q) (reads_table cs rules q) (is_free cs rules q) (reads_good cs rules s q) (no_tables cs rules q s)
      ∙ ap (λ (good : Bool). not (is_bad_rule cs rules q) && good) (reads_good-is s q agree)

  module _ (each : (r : RuleForm) → Has r rules → IsRule cs rules r) where
    pub from_reach : (t : ℕ) → t < 64 → reaches_bad cs rules t ≡ true → HasSpoiledRule t
    from_reach t lt h =
        let n = some_bad cs rules (closure (bit_of t) (arrows cs rules)) h in
        let bad = from_bad cs rules n.0 n.1 n.2 in
        by_way n.0 n.1 n.2 bad (from_head cs rules few t n.0 lt n.1 n.3)
      where
        behind_rule : (n : ℕ) → n < 64 → kind_at cs n ≡ Some Table → (r : IsReadByRule cs rules few t n) → meets (bit_of n) (behind cs rules r.rule.1) ≡ true
        behind_rule n small table r =
            let stands = rule_of cs rules t r.rule r.of_head in
            let either : (meets (bit_of n) (direct cs rules r.rule.1) || meets (bit_of n) (behind cs rules r.rule.1)) ≡ true = sym (in_cone cs rules few each r.rule.1 (each r.rule stands.0).known n small) ∙ r.there in
            elim (cases_Bool (meets (bit_of n) (direct cs rules r.rule.1))) [
              | inl d ↦ table-behind cs rules r.rule.1 n small table d
              | inr f ↦ rw f at either
            ]

        by_way : (n : ℕ) → n < 64 → meets (bit_of n) (bad_tables cs rules) ≡ true → IsBadTable cs rules n → (t ≡ n) ⊎ IsReadByRule cs rules few t n → HasSpoiledRule t
        by_way n small there bad (inl e) = record { rule = bad.rule; of_table = subst (λ (k : ℕ). Has bad.rule (rules_at cs rules k)) (sym e) bad.of_table; spoiled = inl bad.bad }
        by_way n small there bad (inr r) = record { rule = r.rule; of_table = r.of_head; spoiled = inr (meets_bad cs rules (behind cs rules r.rule.1) n small there (behind_rule n small bad.table r)) }

    -- all rules of a table are ones that a good table may have exactly where nothing bad is read from it
    pub good_rules-is : (s t : ℕ) → t < 64 → kind_at cs t ≡ Some Table
        → ((r : RuleForm) → Has r (rules_at cs rules t) → (u : ℕ) → u < 64 → meets (bit_of u) (tables_read cs rules r.1) ≡ true → meets (bit_of u) s ≡ not (reaches_bad cs rules u))
        → list_all (λ rule. is_good_rule cs rules s rule.1) (rules_at cs rules t) ≡ not (reaches_bad cs rules t)
    good_rules-is s t lt is agree = both_ways _ (not (reaches_bad cs rules t)) forth back
      where
        unspoiled : (h : HasSpoiledRule t) → list_all (λ rule. is_good_rule cs rules s rule.1) (rules_at cs rules t) ≡ true → ⊥
        unspoiled h good =
            let fine = sym (good_rule-is s h.rule.1 (agree h.rule h.of_table)) ∙ all_member (λ rule. is_good_rule cs rules s rule.1) (rules_at cs rules t) h.rule good h.of_table in
            let both = and_parts (not (is_bad_rule cs rules h.rule.1)) (not (meets (bad_tables cs rules) (behind cs rules h.rule.1))) fine in
            elim h.spoiled [
              | inl bad ↦ true≢false (sym bad ∙ not-true _ both.0)
              | inr there ↦ true≢false (sym there ∙ not-true _ both.1)
            ]

        forth : list_all (λ rule. is_good_rule cs rules s rule.1) (rules_at cs rules t) ≡ true → not (reaches_bad cs rules t) ≡ true
        forth good = not_from_false _ (false_from_ne_true (reaches_bad cs rules t) (λ h. unspoiled (from_reach t lt h) good))

        fine_rule : reaches_bad cs rules t ≡ false → (r : RuleForm) → Has r (rules_at cs rules t) → is_good_rule cs rules s r.1 ≡ true
        fine_rule none r of_table = good_rule-is s r.1 (agree r of_table) ∙ and_from (not (is_bad_rule cs rules r.1)) (not (meets (bad_tables cs rules) (behind cs rules r.1)))
            (not_from_false _ (false_from_ne_true (is_bad_rule cs rules r.1) (λ bad. true≢false (sym (in_reach t lt is (record { rule = r; of_table = of_table; spoiled = inl bad })) ∙ none))))
            (not_from_false _ (false_from_ne_true (meets (bad_tables cs rules) (behind cs rules r.1)) (λ there. true≢false (sym (in_reach t lt is (record { rule = r; of_table = of_table; spoiled = inr there })) ∙ none))))

        back : not (reaches_bad cs rules t) ≡ true → list_all (λ rule. is_good_rule cs rules s rule.1) (rules_at cs rules t) ≡ true
        back none = all_from (λ rule. is_good_rule cs rules s rule.1) (rules_at cs rules t) (fine_rule (not-true _ none))
