-- What is in a cone: what an expression reads, and what is behind the tables that it reads.
use Rattle.std.proofs.Common.{◌≡◌, ◌≤◌, ◌<◌, ◌||◌, inl, inr, ℕ, true, if◌then◌else◌, bit_or, List, length, refl, ap, sym, ◌∙◌, Some}
use Rattle.std.proofs.lemmas.Bool.{cases_Bool, true≢false}
use Rattle.blz_value.specs.Members.{Has}
use Rattle.blz_value.specs.Bits.{bit_of, meets}
use Rattle.blz_value.specs.Closure.{within, IsClosed, IsLeastClosed}
use Rattle.blz_value.proofs.Within.{within-trans, within-antisym, within-or_l, within-or_r, or-within, and-within_l, and-within_r, within-and}
use Rattle.blz_value.proofs.Members.{meets-within, within-meets, in-within, in-or}
use Rattle.blz_value.proofs.Least.{closure-least}
use Rattle.blz_value.proofs.Reached.{closed-map}
use Rattle.bloom_forms.specs.declared.module.Kind.{Kind}
use Rattle.bloom_forms.specs.declared.module.Kind.TheVariants.{Input, Output, Table, Scratch}
use Rattle.bloom_forms.specs.declared.module.Collection.{Collection}
use Rattle.bloom_forms.specs.Checks.{IsRule}
use Rattle.bloom_forms.specs.Form.{RuleForm}
use Rattle.bloom_forms.specs.Kinds.{same_kind, kind_at, has_kind, is_head, is_readable, is_scratch}
use Rattle.bloom_forms.specs.Lookup.{collection_number}
use Rattle.bloom_forms.specs.Query.{Query}
use Rattle.bloom_forms.specs.Reads.{set_of_name, named, arrow, arrows, scratch_arrow, scratch_arrows, cone, direct, kind_set}
use Rattle.bloom_forms.proofs.Collections.KindSets.{kind-named, named-kind, in_kind_set, from_kind_set, is_table}
use Rattle.bloom_forms.proofs.Reach.Cones.{IsKnown, direct-cone, closed_from, small_name, direct-readable}
use Rattle.bloom_forms.specs.ClosedForms.{behind}
use Rattle.bloom_forms.specs.Good.{all_tables, tables_read}

module _ (cs : List Collection) (rules : List RuleForm) where
  tables-behind : (q : Query) → within (tables_read cs rules q) (behind cs rules q) ≡ true
  tables-behind q = let own : IsLeastClosed (tables_read cs rules q) (arrows cs rules) (behind cs rules q) = closure-least (tables_read cs rules q) (arrows cs rules) in own.contains

  pub behind-cone : (q : Query) → within (behind cs rules q) (cone cs rules q) ≡ true
  behind-cone q =
      let all : IsLeastClosed (named cs q) (arrows cs rules) (cone cs rules q) = closure-least (named cs q) (arrows cs rules) in
      let own : IsLeastClosed (tables_read cs rules q) (arrows cs rules) (behind cs rules q) = closure-least (tables_read cs rules q) (arrows cs rules) in
      own.least (cone cs rules q) (within-trans (tables_read cs rules q) (direct cs rules q) (cone cs rules q) (and-within_r (all_tables cs) (direct cs rules q)) (direct-cone cs rules q)) all.closed

  -- the tables that an expression reads are the tables in what it reads
  pub in_tables_read : (q : Query) (n : ℕ) → n < 64 → kind_at cs n ≡ Some Table
      → meets (bit_of n) (direct cs rules q) ≡ true → meets (bit_of n) (tables_read cs rules q) ≡ true
  in_tables_read q n lt is h = within-meets n (tables_read cs rules q) lt (within-and (all_tables cs) (direct cs rules q) (bit_of n) (meets-within n (all_tables cs) (in_kind_set (same_kind Table) cs n Table lt is refl)) (meets-within n (direct cs rules q) h))

  pub from_tables_read : (q : Query) (n : ℕ) → n < 64 → meets (bit_of n) (tables_read cs rules q) ≡ true
      → (kind_at cs n ≡ Some Table) × (meets (bit_of n) (direct cs rules q) ≡ true)
  from_tables_read q n lt h =
      let found = from_kind_set (same_kind Table) cs n lt (in-within n (tables_read cs rules q) (all_tables cs) lt h (and-within_l (all_tables cs) (direct cs rules q))) in
      (found.1 ∙ ap Some (is_table found.0 found.2), in-within n (tables_read cs rules q) (direct cs rules q) lt h (and-within_r (all_tables cs) (direct cs rules q)))

  -- a table that an expression reads is behind it
  pub table-behind : (q : Query) (n : ℕ) → n < 64 → kind_at cs n ≡ Some Table
      → meets (bit_of n) (direct cs rules q) ≡ true → meets (bit_of n) (behind cs rules q) ≡ true
  table-behind q n lt is h = in-within n (tables_read cs rules q) (behind cs rules q) lt (in_tables_read q n lt is h) (tables-behind q)

module _ (cs : List Collection) (rules : List RuleForm) (few : length cs ≤ 32) where
  module _ (each : (r : RuleForm) → Has r rules → IsRule cs rules r) where
    -- where a rule's head is read, what its body names is read or behind
    head_read : (q : Query) (r : RuleForm) → Has r rules → IsKnown cs q
        → meets (set_of_name cs r.0) (direct cs rules q) ≡ true
        → within (named cs r.1) (bit_or (direct cs rules q) (behind cs rules q)) ≡ true
    head_read q r stands known h =
        let number = collection_number cs r.0 in
        let found = from_kind_set is_readable cs number (small_name cs rules few r.0) (in-within number (direct cs rules q) (kind_set is_readable cs) (small_name cs rules few r.0) h (direct-readable cs rules few each q known)) in
        by_kind found.0 found.1 found.2
      where
        by_kind : (kind : Kind) → kind_at cs (collection_number cs r.0) ≡ Some kind → is_readable kind ≡ true
            → within (named cs r.1) (bit_or (direct cs rules q) (behind cs rules q)) ≡ true
        by_kind Output is t = absurd (true≢false (sym t))
        by_kind Input is t =
            let head = kind-named is_head cs r.0 (each r stands).head in
            let same : Input ≡ head.0 = (let both : Some Input ≡ Some head.0 = sym is ∙ head.1 in cc) in
            absurd (true≢false (sym head.2 ∙ ap is_head (sym same)))
        by_kind Scratch is t =
            let own : IsLeastClosed (named cs q) (scratch_arrows cs rules) (direct cs rules q) = closure-least (named cs q) (scratch_arrows cs rules) in
            let through : has_kind is_scratch cs r.0 ≡ true = named-kind is_scratch cs r.0 Scratch is refl in
            let to : within (if has_kind is_scratch cs r.0 then named cs r.1 else 0) (direct cs rules q) ≡ true = closed-map (scratch_arrow cs) rules (direct cs rules q) own.closed r stands (meets-within (collection_number cs r.0) (direct cs rules q) h) in
            within-trans (named cs r.1) (direct cs rules q) _ (rw through at to) (within-or_l (direct cs rules q) (behind cs rules q))
        by_kind Table is t =
            let own : IsLeastClosed (tables_read cs rules q) (arrows cs rules) (behind cs rules q) = closure-least (tables_read cs rules q) (arrows cs rules) in
            let there : meets (set_of_name cs r.0) (behind cs rules q) ≡ true = table-behind cs rules q (collection_number cs r.0) (small_name cs rules few r.0) is h in
            let to : within (named cs r.1) (behind cs rules q) ≡ true = closed-map (arrow cs) rules (behind cs rules q) own.closed r stands (meets-within (collection_number cs r.0) (behind cs rules q) there) in
            within-trans (named cs r.1) (behind cs rules q) _ to (within-or_r (direct cs rules q) (behind cs rules q))

    both_closed : (q : Query) → IsKnown cs q → IsClosed (arrows cs rules) (bit_or (direct cs rules q) (behind cs rules q))
    both_closed q known = closed_from cs rules few (bit_or (direct cs rules q) (behind cs rules q)) to
      where
        to : (r : RuleForm) → Has r rules
            → meets (set_of_name cs r.0) (bit_or (direct cs rules q) (behind cs rules q)) ≡ true
            → within (named cs r.1) (bit_or (direct cs rules q) (behind cs rules q)) ≡ true
        to r stands h = elim (cases_Bool (meets (set_of_name cs r.0) (direct cs rules q))) [
          | inl t ↦ head_read q r stands known t
          | inr f ↦
              let own : IsLeastClosed (tables_read cs rules q) (arrows cs rules) (behind cs rules q) = closure-least (tables_read cs rules q) (arrows cs rules) in
              let either : (meets (set_of_name cs r.0) (direct cs rules q) || meets (set_of_name cs r.0) (behind cs rules q)) ≡ true = sym (in-or (collection_number cs r.0) (direct cs rules q) (behind cs rules q) (small_name cs rules few r.0)) ∙ h in
              let there : meets (set_of_name cs r.0) (behind cs rules q) ≡ true = rw f at either in
              let inside : within (named cs r.1) (behind cs rules q) ≡ true = closed-map (arrow cs) rules (behind cs rules q) own.closed r stands (meets-within (collection_number cs r.0) (behind cs rules q) there) in
              within-trans (named cs r.1) (behind cs rules q) _ inside (within-or_r (direct cs rules q) (behind cs rules q))
        ]

    -- the cone is what is read and what is behind
    pub cone-is : (q : Query) → IsKnown cs q → cone cs rules q ≡ bit_or (direct cs rules q) (behind cs rules q)
    cone-is q known =
        let all : IsLeastClosed (named cs q) (arrows cs rules) (cone cs rules q) = closure-least (named cs q) (arrows cs rules) in
        let own : IsLeastClosed (named cs q) (scratch_arrows cs rules) (direct cs rules q) = closure-least (named cs q) (scratch_arrows cs rules) in
        within-antisym (cone cs rules q) (bit_or (direct cs rules q) (behind cs rules q))
        (all.least (bit_or (direct cs rules q) (behind cs rules q)) (within-trans (named cs q) (direct cs rules q) _ own.contains (within-or_l (direct cs rules q) (behind cs rules q))) (both_closed q known))
        (or-within (direct cs rules q) (behind cs rules q) (cone cs rules q) (direct-cone cs rules q) (behind-cone cs rules q))

    pub in_cone : (q : Query) → IsKnown cs q → (n : ℕ) → n < 64
        → meets (bit_of n) (cone cs rules q) ≡ (meets (bit_of n) (direct cs rules q) || meets (bit_of n) (behind cs rules q))
    in_cone q known n lt = ap (meets (bit_of n)) (cone-is q known) ∙ in-or n (direct cs rules q) (behind cs rules q) lt
