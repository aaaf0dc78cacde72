-- One level of what an expression reads.
use Rattle.std.proofs.Common.{◌≡◌, ◌≤◌, ◌<◌, ◌+◌, ◌^◌, ◌⊎◌, inl, inr, ℕ, suc, Bool, true, false, if◌then◌else◌, nat_lt, bit_or, Option, None, Some, IfSome, List, [], ◌∷◌, map, length, refl, rules, arith, sym, subst, ◌∙◌}
use Rattle.std.specs.Int.{IsBitSet}
use Rattle.std.specs.List.{position_from, enumerate_from}
use Rattle.std.proofs.Math.Pow.{pow-lt}
use Rattle.std.proofs.lemmas.Bool.{cases_Bool}
use Rattle.std.proofs.lemmas.Nat.{or_lt}
use Rattle.std.proofs.lemmas.Nat.Bits.{bit_at_above}
use Rattle.blz_value.specs.Members.{Has}
use Rattle.blz_value.proofs.Membership.{Has-map, Has-from_map}
use Rattle.blz_value.specs.declared.attrs.Fd.{Fd}
use Rattle.blz_value.specs.Bits.{bit_of, meets}
use Rattle.blz_value.specs.Closure.{within, closure, IsClosed, IsLeastClosed}
use Rattle.blz_value.proofs.Within.{set_one, within-refl}
use Rattle.blz_value.proofs.Members.{bit_of-is, meets-some, some-meets, meets-within, within-meets, in-bit, bit-in, in-within, in-empty, bit_of-above}
use Rattle.blz_value.proofs.Least.{closure-least}
use Rattle.blz_value.proofs.Reached.{IsSingle, LeadsTo, cone_of, unfolds, folds}
use Rattle.bloom_forms.specs.declared.module.Collection.{Collection}
use Rattle.bloom_forms.specs.Form.{RuleForm}
use Rattle.bloom_forms.specs.Kinds.{has_kind, is_input, is_scratch}
use Rattle.bloom_forms.specs.Lookup.{is_named, collection_number}
use Rattle.bloom_forms.specs.Query.{Name, Query}
use Rattle.bloom_forms.specs.Reads.{set_of_name, named, arrow, arrows, scratch_arrow, scratch_arrows, cone, direct, kind_set, is_momentary, NamesRule, NamesScratchRule}
use Rattle.blz_value.specs.Arrows.{with_all, bit_if}

-- numbers of collections are small

place_below : (t : Collection → Bool) (i : ℕ) (cs : List Collection) → IfSome (position_from t i cs) (λ k. k < i + length cs)
place_below t i [] = tt
place_below t i (c ∷ cs) = elim (cases_Bool (t c)) [
  | inl e ↦ rw e (omega arith)
  | inr e ↦ rw e (weaker (position_from t (i + 1) cs) (place_below t (i + 1) cs))
]
  where
    weaker : (o : Option ℕ) → IfSome o (λ k. k < i + 1 + length cs) → IfSome o (λ k. k < i + suc (length cs))
    weaker None h = tt
    weaker (Some k) h = omega arith

pub number_small : (cs : List Collection) (name : Name) → collection_number cs name ≤ length cs
number_small cs name = go (position_from (is_named name) 0 cs) refl (place_below (is_named name) 0 cs)
  where
    go : (o : Option ℕ) → position_from (is_named name) 0 cs ≡ o → IfSome o (λ k. k < 0 + length cs) → collection_number cs name ≤ length cs
    go None e h = rw e (omega arith)
    go (Some k) e h = rw e (omega arith)

-- each arrow starts at one number

module _ (cs : List Collection) (rules : List RuleForm) (few : length cs ≤ 32) where
  single : (r : RuleForm) (to : ℕ) → IsSingle (record { from = record { bits = set_of_name cs r.0 }; to = record { bits = to } })
  single r to = record { number = collection_number cs r.0; small = omega (arith, number_small cs r.0); is = refl }

  pub arrows_single : (fd : Fd) → Has fd (arrows cs rules) → IsSingle fd
  arrows_single fd n = let from = Has-from_map (arrow cs) fd rules n in subst (λ (z : Fd). IsSingle z) from.2 (single from.0 (named cs from.0.1))

  scratches_single : (fd : Fd) → Has fd (scratch_arrows cs rules) → IsSingle fd
  scratches_single fd n = let from = Has-from_map (scratch_arrow cs) fd rules n in subst (λ (z : Fd). IsSingle z) from.2 (single from.0 (if has_kind is_scratch cs from.0.0 then named cs from.0.1 else 0))

-- nothing is read from nothing

empty_closed : (fds : List Fd) → ((fd : Fd) → Has fd fds → IsSingle fd) → IsClosed fds 0
empty_closed fds single = go
  where
    go : (fd : Fd) → Has fd fds → within fd.from.bits 0 ≡ true → within fd.to.bits 0 ≡ true
    go fd n fires =
        let one = single fd n in
        let here : within (bit_of one.number) 0 ≡ true = rw one.is at fires in
        let yes : meets (bit_of one.number) 0 ≡ true = within-meets one.number 0 one.small here in
        let bad : true ≡ false = sym yes ∙ in-empty one.number in cc

none_read : (fds : List Fd) → ((fd : Fd) → Has fd fds → IsSingle fd) → (n : ℕ) → n < 64 → meets (bit_of n) (closure 0 fds) ≡ true → ⊥
none_read fds single n lt h =
    let least : IsLeastClosed 0 fds (closure 0 fds) = closure-least 0 fds in
    let nothing : within (closure 0 fds) 0 ≡ true = least.least 0 (within-refl 0) (empty_closed fds single) in
    let yes : meets (bit_of n) 0 ≡ true = in-within n (closure 0 fds) 0 lt h nothing in
    let bad : true ≡ false = sym yes ∙ in-empty n in cc

module _ (cs : List Collection) (rules : List RuleForm) (q : Query) (few : length cs ≤ 32) where
  fires_named : (r : RuleForm) → within (set_of_name cs r.0) (named cs q) ≡ true → meets (set_of_name cs r.0) (named cs q) ≡ true
  fires_named r f = within-meets (collection_number cs r.0) (named cs q) (omega (arith, number_small cs r.0, few)) f

  pub cone_unfolds : (n : ℕ) → n < 64 → meets (bit_of n) (cone cs rules q) ≡ true → (meets (bit_of n) (named cs q) ≡ true) ⊎ ((r : RuleForm) × NamesRule cs rules q r × (meets (bit_of n) (cone cs rules r.1) ≡ true))
  cone_unfolds n lt h = go (unfolds (arrows cs rules) (arrows_single cs rules few) (named cs q) n lt h)
    where
      go : (meets (bit_of n) (named cs q) ≡ true) ⊎ LeadsTo (cone_of (arrows cs rules)) (named cs q) (arrows cs rules) n → (meets (bit_of n) (named cs q) ≡ true) ⊎ ((r : RuleForm) × NamesRule cs rules q r × (meets (bit_of n) (cone cs rules r.1) ≡ true))
      go (inl t) = inl t
      go (inr l) =
          let from = Has-from_map (arrow cs) l.fd rules l.stands in
          let fires : within (set_of_name cs from.0.0) (named cs q) ≡ true = subst (λ (z : Fd). within z.from.bits (named cs q) ≡ true) (sym from.2) l.fires in
          let there : meets (bit_of n) (cone cs rules from.0.1) ≡ true = subst (λ (z : Fd). meets (bit_of n) (closure z.to.bits (arrows cs rules)) ≡ true) (sym from.2) l.there in
          inr (from.0, record { stands = from.1; named = fires_named from.0 fires }, there)

  pub cone_folds : (n : ℕ) → n < 64 → (meets (bit_of n) (named cs q) ≡ true) ⊎ ((r : RuleForm) × NamesRule cs rules q r × (meets (bit_of n) (cone cs rules r.1) ≡ true)) → meets (bit_of n) (cone cs rules q) ≡ true
  cone_folds n lt (inl t) = folds (arrows cs rules) (named cs q) n lt (inl t)
  cone_folds n lt (inr p) = folds (arrows cs rules) (named cs q) n lt (inr (record { fd = arrow cs p.0; stands = Has-map (arrow cs) p.0 rules p.1.stands; fires = meets-within (collection_number cs p.0.0) (named cs q) p.1.named; there = p.2 }))

  pub direct_unfolds : (n : ℕ) → n < 64 → meets (bit_of n) (direct cs rules q) ≡ true → (meets (bit_of n) (named cs q) ≡ true) ⊎ ((r : RuleForm) × NamesScratchRule cs rules q r × (meets (bit_of n) (direct cs rules r.1) ≡ true))
  direct_unfolds n lt h = go (unfolds (scratch_arrows cs rules) (scratches_single cs rules few) (named cs q) n lt h)
    where
      go : (meets (bit_of n) (named cs q) ≡ true) ⊎ LeadsTo (cone_of (scratch_arrows cs rules)) (named cs q) (scratch_arrows cs rules) n → (meets (bit_of n) (named cs q) ≡ true) ⊎ ((r : RuleForm) × NamesScratchRule cs rules q r × (meets (bit_of n) (direct cs rules r.1) ≡ true))
      go (inl t) = inl t
      go (inr l) =
          let from = Has-from_map (scratch_arrow cs) l.fd rules l.stands in
          let fires : within (set_of_name cs from.0.0) (named cs q) ≡ true = subst (λ (z : Fd). within z.from.bits (named cs q) ≡ true) (sym from.2) l.fires in
          let there : meets (bit_of n) (closure (if has_kind is_scratch cs from.0.0 then named cs from.0.1 else 0) (scratch_arrows cs rules)) ≡ true = subst (λ (z : Fd). meets (bit_of n) (closure z.to.bits (scratch_arrows cs rules)) ≡ true) (sym from.2) l.there in
          elim (cases_Bool (has_kind is_scratch cs from.0.0)) [
            | inl through ↦ inr (from.0, record { rule = record { stands = from.1; named = fires_named from.0 fires }; scratch = through }, rw through at there)
            | inr other ↦ absurd (none_read (scratch_arrows cs rules) (scratches_single cs rules few) n lt (rw other at there))
          ]

  pub direct_folds : (n : ℕ) → n < 64 → (meets (bit_of n) (named cs q) ≡ true) ⊎ ((r : RuleForm) × NamesScratchRule cs rules q r × (meets (bit_of n) (direct cs rules r.1) ≡ true)) → meets (bit_of n) (direct cs rules q) ≡ true
  direct_folds n lt (inl t) = folds (scratch_arrows cs rules) (named cs q) n lt (inl t)
  direct_folds n lt (inr p) = folds (scratch_arrows cs rules) (named cs q) n lt (inr (record { fd = scratch_arrow cs p.0; stands = Has-map (scratch_arrow cs) p.0 rules p.1.rule.stands; fires = meets-within (collection_number cs p.0.0) (named cs q) p.1.rule.named; there = rw p.1.scratch p.2 }))

-- inputs are numbers below 64

bit_of-lt : (n : ℕ) → bit_of n < 2 ^ 64
bit_of-lt n = elim (cases_Bool (nat_lt n 64)) [
  | inl t ↦ (let lt : n < 64 = search rules in rw (bit_of-is n lt) (pow-lt lt))
  | inr f ↦ rw (bit_of-above n f) (omega arith)
]

pub bit_if-lt : (b : Bool) (n : ℕ) → bit_if b n < 2 ^ 64
bit_if-lt true n = bit_of-lt n
bit_if-lt false n = omega arith

pub with_all-lt : {X : Type 0} (f : X → ℕ) → ((x : X) → f x < 2 ^ 64) → (s : ℕ) (xs : List X) → s < 2 ^ 64 → with_all s (map f xs) < 2 ^ 64
with_all-lt f small s [] lt = lt
with_all-lt f small s (x ∷ xs) lt = with_all-lt f small (bit_or s (f x)) xs (or_lt 64 s (f x) lt (small x))

inputs-lt : (cs : List Collection) → kind_set is_input cs < 2 ^ 64
inputs-lt cs = with_all-lt (λ place. bit_if (is_input place.1.kind) place.0) (λ place. bit_if-lt (is_input place.1.kind) place.0) 0 (enumerate_from 0 cs) (omega arith)

pub bit_small : (s k : ℕ) → s < 2 ^ 64 → IsBitSet s k → k < 64
bit_small s k lt set = elim (cases_Bool (nat_lt k 64)) [
  | inl t ↦ search rules
  | inr f ↦ absurd (let le : 64 ≤ k = search rules in omega (arith, bit_at_above s 64 k lt le, set_one s k set))
]

module _ (cs : List Collection) (rules : List RuleForm) (q : Query) (few : length cs ≤ 32) where
  pub momentary_unfolds : is_momentary cs rules q ≡ true → (meets (kind_set is_input cs) (named cs q) ≡ true) ⊎ ((r : RuleForm) × NamesScratchRule cs rules q r × (is_momentary cs rules r.1 ≡ true))
  momentary_unfolds h =
      let found = meets-some (kind_set is_input cs) (direct cs rules q) h in
      let small : found.0 < 64 = bit_small (kind_set is_input cs) found.0 (inputs-lt cs) found.1.0 in
      elim (direct_unfolds cs rules q few found.0 small (bit-in found.0 (direct cs rules q) small found.1.1)) [
        | inl t ↦ inl (some-meets (kind_set is_input cs) (named cs q) found.0 found.1.0 (in-bit found.0 (named cs q) small t))
        | inr p ↦ inr (p.0, p.1, some-meets (kind_set is_input cs) (direct cs rules p.0.1) found.0 found.1.0 (in-bit found.0 (direct cs rules p.0.1) small p.2))
      ]

  folded : (s : ℕ) → meets (kind_set is_input cs) s ≡ true → ((n : ℕ) → n < 64 → meets (bit_of n) s ≡ true → meets (bit_of n) (direct cs rules q) ≡ true) → is_momentary cs rules q ≡ true
  folded s h each =
      let found = meets-some (kind_set is_input cs) s h in
      let small : found.0 < 64 = bit_small (kind_set is_input cs) found.0 (inputs-lt cs) found.1.0 in
      some-meets (kind_set is_input cs) (direct cs rules q) found.0 found.1.0 (in-bit found.0 (direct cs rules q) small (each found.0 small (bit-in found.0 s small found.1.1)))

  pub momentary_folds : (meets (kind_set is_input cs) (named cs q) ≡ true) ⊎ ((r : RuleForm) × NamesScratchRule cs rules q r × (is_momentary cs rules r.1 ≡ true)) → is_momentary cs rules q ≡ true
  momentary_folds (inl t) = folded (named cs q) t (λ n lt h. direct_folds cs rules q few n lt (inl h))
  momentary_folds (inr p) = folded (direct cs rules p.0.1) p.2 (λ n lt h. direct_folds cs rules q few n lt (inr (p.0, p.1, h)))
