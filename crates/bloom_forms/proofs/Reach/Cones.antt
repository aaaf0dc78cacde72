-- What is in a cone: what an expression names, and what the rules of collections in the cone name.
use Rattle.std.proofs.Common.{◌≡◌, ◌≤◌, ◌<◌, ◌⊎◌, inl, inr, ℕ, true, if◌then◌else◌, List, length, refl, arith, sym, subst}
use Rattle.std.specs.Prelude.{◌==◌}
use Rattle.std.specs.List.{list_all}
use Rattle.std.proofs.lemmas.Bool.{cases_Bool, eqb-true, eq-eqb}
use Rattle.blz_value.specs.Members.{Has}
use Rattle.blz_value.proofs.Membership.{Has-map, Has-from_map, Has-filter, Has-from_filter, Has-append_left, Has-append_right, all_member}
use Rattle.blz_value.specs.declared.attrs.Fd.{Fd}
use Rattle.blz_value.specs.Bits.{bit_of, meets}
use Rattle.blz_value.specs.Closure.{within, closure, IsClosed, IsLeastClosed}
use Rattle.blz_value.proofs.Within.{within-refl, within-empty, or-within}
use Rattle.blz_value.proofs.Members.{meets-within, within-meets, in-within, one_number}
use Rattle.blz_value.proofs.Least.{closure-least}
use Rattle.blz_value.proofs.Reached.{unfolds, folds, closed-map, closure-self, closure-trans}
use Rattle.bloom_forms.specs.declared.module.Collection.{Collection}
use Rattle.bloom_forms.specs.Checks.{IsRule}
use Rattle.bloom_forms.specs.Form.{RuleForm}
use Rattle.bloom_forms.specs.Heads.{names_of}
use Rattle.bloom_forms.specs.Kinds.{has_kind, is_readable, is_scratch}
use Rattle.bloom_forms.specs.Lookup.{collection_number}
use Rattle.bloom_forms.specs.Query.{Name, Query}
use Rattle.bloom_forms.specs.Query.Query.{base, select, project, join, notin, group, at_least}
use Rattle.bloom_forms.specs.Reads.{set_of_name, named, arrow, arrows, scratch_arrow, scratch_arrows, cone, direct, kind_set}
use Rattle.bloom_forms.specs.Step.{rules_at}
use Rattle.bloom_forms.proofs.Reach.Unfolding.{number_small, arrows_single}
use Rattle.bloom_forms.proofs.Collections.KindSets.{kind-named, in_kind_set}

-- a set that has each collection of an expression

pub named-within : (cs : List Collection) (s : ℕ) (q : Query)
    → ((name : Name) → Has name (names_of q) → meets (set_of_name cs name) s ≡ true) → within (named cs q) s ≡ true
named-within cs s (base n) each = meets-within (collection_number cs n) s (each n (inl refl))
named-within cs s (select q f) each = named-within cs s q each
named-within cs s (project q items) each = named-within cs s q each
named-within cs s (join a b pairs) each = or-within (named cs a) (named cs b) s
    (named-within cs s a (λ n h. each n (Has-append_left n (names_of a) (names_of b) h)))
    (named-within cs s b (λ n h. each n (Has-append_right n (names_of a) (names_of b) h)))
named-within cs s (notin a b pairs) each = or-within (named cs a) (named cs b) s
    (named-within cs s a (λ n h. each n (Has-append_left n (names_of a) (names_of b) h)))
    (named-within cs s b (λ n h. each n (Has-append_right n (names_of a) (names_of b) h)))
named-within cs s (group q keys agg name) each = named-within cs s q each
named-within cs s (at_least q keys bound) each = named-within cs s q each

-- an expression names collections alone that a body may name
abbrev pub IsKnown : List Collection → Query → Type 0
IsKnown cs q = list_all (has_kind is_readable cs) (names_of q) ≡ true

module _ (cs : List Collection) (rules : List RuleForm) where
  -- what scratches lead to is in each set that is closed under all rules
  scratches_closed : (s : ℕ) → IsClosed (arrows cs rules) s → IsClosed (scratch_arrows cs rules) s
  scratches_closed s closed = go
    where
      to : (r : RuleForm) → Has r rules → within (set_of_name cs r.0) s ≡ true
          → within (if has_kind is_scratch cs r.0 then named cs r.1 else 0) s ≡ true
      to r stands fires = elim (cases_Bool (has_kind is_scratch cs r.0)) [
        | inl t ↦ rw t (closed-map (arrow cs) rules s closed r stands fires)
        | inr f ↦ rw f (within-empty s)
      ]

      go : (fd : Fd) → Has fd (scratch_arrows cs rules) → within fd.from.bits s ≡ true → within fd.to.bits s ≡ true
      go fd n fires =
          let from = Has-from_map (scratch_arrow cs) fd rules n in
          let fires_there : within (set_of_name cs from.0.0) s ≡ true = subst (λ (z : Fd). within z.from.bits s ≡ true) (sym from.2) fires in
          subst (λ (z : Fd). within z.to.bits s ≡ true) from.2 (to from.0 from.1 fires_there)

  pub direct-cone : (q : Query) → within (direct cs rules q) (cone cs rules q) ≡ true
  direct-cone q =
      let all : IsLeastClosed (named cs q) (arrows cs rules) (cone cs rules q) = closure-least (named cs q) (arrows cs rules) in
      let own : IsLeastClosed (named cs q) (scratch_arrows cs rules) (direct cs rules q) = closure-least (named cs q) (scratch_arrows cs rules) in
      own.least (cone cs rules q) all.contains (scratches_closed (cone cs rules q) all.closed)

module _ (cs : List Collection) (rules : List RuleForm) (few : length cs ≤ 32) where
  -- a closure is what is read from each number that it starts with
  pub from_closure : (s n : ℕ) → n < 64 → meets (bit_of n) (closure s (arrows cs rules)) ≡ true
      → (t : ℕ) × (t < 64) × (meets (bit_of t) s ≡ true) × (meets (bit_of n) (closure (bit_of t) (arrows cs rules)) ≡ true)
  from_closure s n lt h = elim (unfolds (arrows cs rules) (arrows_single cs rules few) s n lt h) [
    | inl here ↦ (n, lt, here, closure-self (arrows cs rules) n lt)
    | inr l ↦
        let one = arrows_single cs rules few l.fd l.stands in
        let fires : within (bit_of one.number) s ≡ true = rw one.is at l.fires in
        let own : within l.fd.from.bits (bit_of one.number) ≡ true = subst (λ (v : ℕ). within v (bit_of one.number) ≡ true) (sym one.is) (within-refl (bit_of one.number)) in
        (one.number, one.small, within-meets one.number s one.small fires, folds (arrows cs rules) (bit_of one.number) n lt (inr (record { fd = l.fd; stands = l.stands; fires = own; there = l.there })))
  ]

  pub in_closure : (s t n : ℕ) → t < 64 → n < 64 → meets (bit_of t) s ≡ true
      → meets (bit_of n) (closure (bit_of t) (arrows cs rules)) ≡ true
      → meets (bit_of n) (closure s (arrows cs rules)) ≡ true
  in_closure s t n small lt there h =
      let own : IsLeastClosed s (arrows cs rules) (closure s (arrows cs rules)) = closure-least s (arrows cs rules) in
      closure-trans (arrows cs rules) s t n lt (in-within t s (closure s (arrows cs rules)) small there own.contains) h

  -- a rule of the collection, in whose cone the number is
  pub record IsReadByRule (t n : ℕ) : Type 0 where
    pub rule : RuleForm
    pub of_head : Has rule (rules_at cs rules t)
    pub there : meets (bit_of n) (cone cs rules rule.1) ≡ true

  pub small_name : (name : Name) → collection_number cs name < 64
  small_name name = omega (arith, number_small cs name, few)

  -- a set that has what is named by the rules of its collections is closed
  pub closed_from : (s : ℕ)
      → ((r : RuleForm) → Has r rules → meets (set_of_name cs r.0) s ≡ true → within (named cs r.1) s ≡ true)
      → IsClosed (arrows cs rules) s
  closed_from s to = go
    where
      go : (fd : Fd) → Has fd (arrows cs rules) → within fd.from.bits s ≡ true → within fd.to.bits s ≡ true
      go fd n fires =
          let from = Has-from_map (arrow cs) fd rules n in
          let fires_there : within (set_of_name cs from.0.0) s ≡ true = subst (λ (z : Fd). within z.from.bits s ≡ true) (sym from.2) fires in
          subst (λ (z : Fd). within z.to.bits s ≡ true) from.2 (to from.0 from.1 (within-meets (collection_number cs from.0.0) s (small_name from.0.0) fires_there))

  -- what is read from a collection is itself, and the cones of its rules
  pub from_head : (t n : ℕ) → t < 64 → n < 64 → meets (bit_of n) (closure (bit_of t) (arrows cs rules)) ≡ true → (t ≡ n) ⊎ IsReadByRule t n
  from_head t n small lt h = elim (unfolds (arrows cs rules) (arrows_single cs rules few) (bit_of t) n lt h) [
    | inl here ↦ inl (one_number n t lt here)
    | inr l ↦
        let from = Has-from_map (arrow cs) l.fd rules l.stands in
        let fires : within (set_of_name cs from.0.0) (bit_of t) ≡ true = subst (λ (z : Fd). within z.from.bits (bit_of t) ≡ true) (sym from.2) l.fires in
        let there : meets (bit_of n) (cone cs rules from.0.1) ≡ true = subst (λ (z : Fd). meets (bit_of n) (closure z.to.bits (arrows cs rules)) ≡ true) (sym from.2) l.there in
        let head : t ≡ collection_number cs from.0.0 = one_number (collection_number cs from.0.0) t (small_name from.0.0) (within-meets (collection_number cs from.0.0) (bit_of t) (small_name from.0.0) fires) in
        inr (record { rule = from.0; of_head = Has-filter (λ (rule : RuleForm). collection_number cs rule.0 == t) from.0 rules from.1 (eq-eqb (collection_number cs from.0.0) t (sym head)); there = there })
  ]

  pub in_head : (t n : ℕ) → n < 64 → IsReadByRule t n → meets (bit_of n) (closure (bit_of t) (arrows cs rules)) ≡ true
  in_head t n lt r =
      let kept = Has-from_filter (λ (rule : RuleForm). collection_number cs rule.0 == t) r.rule rules r.of_head in
      let head : collection_number cs r.rule.0 ≡ t = eqb-true (collection_number cs r.rule.0) t kept.1 in
      folds (arrows cs rules) (bit_of t) n lt (inr (record { fd = arrow cs r.rule; stands = Has-map (arrow cs) r.rule rules kept.0; fires = rw head (within-refl (bit_of t)); there = r.there }))

  module _ (each : (r : RuleForm) → Has r rules → IsRule cs rules r) where
    known_name : (q : Query) → IsKnown cs q → (name : Name) → Has name (names_of q)
        → meets (set_of_name cs name) (kind_set is_readable cs) ≡ true
    known_name q known name n =
        let found = kind-named is_readable cs name (all_member (has_kind is_readable cs) (names_of q) name known n) in
        in_kind_set is_readable cs (collection_number cs name) found.0 (small_name name) found.1 found.2

    readable_closed : IsClosed (scratch_arrows cs rules) (kind_set is_readable cs)
    readable_closed = go
      where
        to : (r : RuleForm) → Has r rules → within (if has_kind is_scratch cs r.0 then named cs r.1 else 0) (kind_set is_readable cs) ≡ true
        to r stands = elim (cases_Bool (has_kind is_scratch cs r.0)) [
          | inl t ↦ rw t (named-within cs (kind_set is_readable cs) r.1 (known_name r.1 (each r stands).known))
          | inr f ↦ rw f (within-empty (kind_set is_readable cs))
        ]

        go : (fd : Fd) → Has fd (scratch_arrows cs rules) → within fd.from.bits (kind_set is_readable cs) ≡ true
            → within fd.to.bits (kind_set is_readable cs) ≡ true
        go fd n fires = let from = Has-from_map (scratch_arrow cs) fd rules n in subst (λ (z : Fd). within z.to.bits (kind_set is_readable cs) ≡ true) from.2 (to from.0 from.1)

    -- an expression reads ports, tables and scratches, and no outputs
    pub direct-readable : (q : Query) → IsKnown cs q → within (direct cs rules q) (kind_set is_readable cs) ≡ true
    direct-readable q known =
        let own : IsLeastClosed (named cs q) (scratch_arrows cs rules) (direct cs rules q) = closure-least (named cs q) (scratch_arrows cs rules) in
        own.least (kind_set is_readable cs) (named-within cs (kind_set is_readable cs) q (known_name q known)) readable_closed
