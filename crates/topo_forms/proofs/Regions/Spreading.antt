-- Sets that spread: one level.
use Rattle.std.proofs.Common.{◌≡◌, ◌<◌, ◌≤◌, ◌+◌, ◌⊎◌, inl, inr, ℕ, zero, suc, Bool, true, false, ◌&&◌, ◌||◌, bit_or, List, [], ◌∷◌, map, refl, arith, ap, sym, subst, ◌∙◌}
use Rattle.std.specs.List.{list_all, range_with_len}
use Rattle.std.proofs.lemmas.Bool.{cases_Bool, cases_eq, or_cases}
use Rattle.std.proofs.Math.Bool.{and-true}
use Rattle.blz_value.specs.Members.{Has}
use Rattle.blz_value.proofs.Membership.{Has-from_map}
use Rattle.blz_value.specs.declared.attrs.Fd.{Fd}
use Rattle.blz_value.specs.Bits.{bit_of, meets}
use Rattle.blz_value.specs.Closure.{within, IsClosed, IsLeastClosed}
use Rattle.blz_value.proofs.Within.{within-trans, within-empty, within-or_l, within-or_r, or-within}
use Rattle.blz_value.proofs.Members.{meets-within, within-meets, in-within}
use Rattle.blz_value.proofs.Least.{closure-least}
use Rattle.blz_value.proofs.Reached.{closed-map}
use Rattle.blz_value.specs.Arrows.{with_all, bit_if}
use Rattle.bloom_forms.proofs.Collections.Chosen.{in_chosen, from_chosen}
use Rattle.blz_value.specs.NumberSets.{below, set_of_numbers, set_where, spreading, spread}
use Rattle.blz_value.proofs.Booleans.{same_truth, and_true, both_true, or_right, or_left}

-- ---- numbers below a count

in_range : (at n k : ℕ) → at ≤ k → k < at + n → Has k (range_with_len at n)
in_range at zero k low high = absurd (omega (arith, low, high))
in_range at (suc n) k low high = elim (cases_eq at k) [
  | inl e ↦ inl e
  | inr other ↦ inr (in_range (at + 1) n k (omega (arith, low, other)) (omega (arith, high)))
]

pub in_below : (count k : ℕ) → k < count → Has k (below count)
in_below count k lt = in_range 0 count k (omega arith) (omega (arith, lt))

-- ---- truth values

and_assoc : (a b c : Bool) → ((a && b) && c) ≡ (a && (b && c))
and_assoc true b c = refl
and_assoc false b c = refl

-- ---- sets of numbers

-- a set of those that pass lies in a set that has each of them
where_within : (test : ℕ → Bool) (s t : ℕ) (ns : List ℕ) → within s t ≡ true
    → ((n : ℕ) → Has n ns → test n ≡ true → meets (bit_of n) t ≡ true)
    → within (with_all s (map (λ n. bit_if (test n) n) ns)) t ≡ true
where_within test s t [] inside each = inside
where_within test s t (n ∷ ns) inside each =
    where_within test (bit_or s (bit_if (test n) n)) t ns (or-within s (bit_if (test n) n) t inside (first (cases_Bool (test n)))) (λ m has. each m (inr has))
  where
    first : (test n ≡ true) ⊎ (test n ≡ false) → within (bit_if (test n) n) t ≡ true
    first (inl holds) = rw holds (meets-within n t (each n (inl refl) holds))
    first (inr fails) = rw fails (within-empty t)

-- a union lies in a set where both do
or_within : (a b t : ℕ) → within (bit_or a b) t ≡ (within a t && within b t)
or_within a b t = same_truth (within (bit_or a b) t) (within a t && within b t)
    (λ h. and_true (within a t) (within b t) (within-trans a (bit_or a b) t (within-or_l a b) h) (within-trans b (bit_or a b) t (within-or_r a b) h))
    (λ h. let both = both_true (within a t) (within b t) h in or-within a b t both.0 both.1)

one_within : (n t : ℕ) → n < 64 → within (bit_of n) t ≡ meets (bit_of n) t
one_within n t lt = same_truth (within (bit_of n) t) (meets (bit_of n) t) (within-meets n t lt) (meets-within n t)

all_within : (s t : ℕ) (ns : List ℕ) → ((n : ℕ) → Has n ns → n < 64)
    → within (with_all s (map bit_of ns)) t ≡ (within s t && list_all (λ n. meets (bit_of n) t) ns)
all_within s t [] small = let e : (within s t && true) ≡ within s t = and-true (within s t) in sym e
all_within s t (n ∷ ns) small =
    all_within (bit_or s (bit_of n)) t ns (λ m has. small m (inr has))
    ∙ ap (λ (b : Bool). b && list_all (λ m. meets (bit_of m) t) ns) (or_within s (bit_of n) t ∙ ap (λ (b : Bool). within s t && b) (one_within n t (small n (inl refl))))
    ∙ and_assoc (within s t) (meets (bit_of n) t) (list_all (λ m. meets (bit_of m) t) ns)

-- some numbers lie in a set where each of them is in it
pub numbers_within : (t : ℕ) (ns : List ℕ) → ((n : ℕ) → Has n ns → n < 64) → within (set_of_numbers ns) t ≡ list_all (λ n. meets (bit_of n) t) ns
numbers_within t ns small = all_within 0 t ns small ∙ ap (λ (b : Bool). b && list_all (λ n. meets (bit_of n) t) ns) (within-empty t)

-- ---- one level

module _ (starts passes : ℕ → Bool) (needs : ℕ → ℕ) (ns : List ℕ) (small : (n : ℕ) → Has n ns → n < 64) where
  abbrev all : ℕ
  all = spread starts passes needs ns

  least : IsLeastClosed (set_where starts ns) (map (spreading passes needs) ns) all
  least = closure-least (set_where starts ns) (map (spreading passes needs) ns)

  -- who starts it, or passes and has in it all that it needs
  abbrev pub belongs : ℕ → Bool
  belongs n = starts n || (passes n && within (needs n) all)

  folds : (n : ℕ) → Has n ns → belongs n ≡ true → meets (bit_of n) all ≡ true
  folds n has h = elim (or_cases (starts n) (passes n && within (needs n) all) h) [
    | inl first ↦ in-within n (set_where starts ns) all (small n has) (in_chosen starts (λ m. m) ns n has first (small n has)) least.contains
    | inr later ↦
        let both = both_true (passes n) (within (needs n) all) later in
        let there : within (bit_if (passes n) n) all ≡ true = closed-map (spreading passes needs) ns all least.closed n has both.1 in
        within-meets n all (small n has) (subst (λ (b : Bool). within (bit_if b n) all ≡ true) both.0 there)
  ]

  abbrev those : ℕ
  those = set_where belongs ns

  those_within : within those all ≡ true
  those_within = where_within belongs 0 all ns (within-empty all) folds

  in_those : (n : ℕ) → Has n ns → belongs n ≡ true → meets (bit_of n) those ≡ true
  in_those n has h = in_chosen belongs (λ m. m) ns n has h (small n has)

  those_start : within (set_where starts ns) those ≡ true
  those_start = where_within starts 0 those ns (within-empty those) (λ n has first. in_those n has (or_left (starts n) (passes n && within (needs n) all) first))

  those_closed : IsClosed (map (spreading passes needs) ns) those
  those_closed fd stands fires =
      let from = Has-from_map (spreading passes needs) fd ns stands in
      subst (λ (z : Fd). within z.from.bits those ≡ true → within z.to.bits those ≡ true) from.2 (grown from.0 from.1 (cases_Bool (passes from.0))) fires
    where
      grown : (n : ℕ) → Has n ns → (passes n ≡ true) ⊎ (passes n ≡ false) → within (needs n) those ≡ true → within (bit_if (passes n) n) those ≡ true
      grown n has (inl holds) h =
          let inside : within (needs n) all ≡ true = within-trans (needs n) those all h those_within in
          rw holds (meets-within n those (in_those n has (or_right (starts n) (passes n && within (needs n) all) (and_true (passes n) (within (needs n) all) holds inside))))
      grown n has (inr fails) h = rw fails (within-empty those)

  unfolds : (n : ℕ) → Has n ns → meets (bit_of n) all ≡ true → belongs n ≡ true
  unfolds n has h =
      let there : meets (bit_of n) those ≡ true = in-within n all those (small n has) h (least.least those those_start those_closed) in
      let chosen = from_chosen belongs (λ m. m) ns n (small n has) there in
      subst (λ (m : ℕ). belongs m ≡ true) chosen.is chosen.passes

  pub one_level : (n : ℕ) → Has n ns → meets (bit_of n) all ≡ belongs n
  one_level n has = same_truth (meets (bit_of n) all) (belongs n) (unfolds n has) (folds n has)
