-- Walks over the numbers below a count that end at the first that passes, and over those that pass.
use Rattle.std.proofs.Common.{◌≡◌, ◌<◌, ◌+◌, ◌⊎◌, inl, inr, ℕ, zero, suc, not, ◌&&◌, Bool, true, false, cond, if◌then◌else◌, Option, None, Some, is_some, List, [], ◌∷◌, ◌++◌, filter, append_assoc, refl, arith, ap, sym, subst, ◌∙◌}
use Rattle.std.specs.List.{cons_option, find, filter_map, list_all}
use Rattle.std.specs.Option.{option_and_then}
use Rattle.std.proofs.lemmas.Bool.{cases_lt, true≢false, false_from_ne_true}
use Rattle.std.proofs.lemmas.List.Elements.{filter_map-append}
use Rattle.std.proofs.lemmas.List.Folds.{list_all-append}
use Rattle.blz_value.proofs.Membership.{Has-filter, all_member}
use Rattle.blz_value.specs.NumberSets.{below}
use Rattle.blz_value.proofs.Booleans.{not_true as not_so, and_true, both_true}
use Rattle.blz_value.proofs.Ranges.{below_more, filter_below_more}
use Rattle.topo_forms.proofs.Regions.Spreading.{in_below}

-- the numbers below a count are those below one of them, it and the rest
below_split : (n m : ℕ) → n < m → (rest : List ℕ) × (below m ≡ below n ++ (n ∷ rest))
below_split n zero lt = absurd (omega arith)
below_split n (suc m) lt = elim (cases_lt n m) [
  | inl before ↦
      let less = below_split n m before in
      let one : m + 1 ≡ suc m = omega arith in
      (less.0 ++ (m ∷ []), ap below (sym one) ∙ below_more m ∙ ap (λ (xs : List ℕ). xs ++ (m ∷ [])) less.1 ∙ append_assoc (below n) (n ∷ less.0) (m ∷ []))
  | inr past ↦
      let same : m ≡ n = omega arith in
      let one : m + 1 ≡ suc m = omega arith in
      ([], ap below (sym one) ∙ below_more m ∙ ap (λ (k : ℕ). below k ++ (k ∷ [])) same)
]

module _ {X : Type 0} (p : X → Bool) where
  find-none_append : (xs ys : List X) → find p xs ≡ None → find p (xs ++ ys) ≡ find p ys
  find-none_append [] ys none = refl
  find-none_append (x ∷ xs) ys none = by (p x) (λ more. find-none_append xs ys more) none
    where
      by : (b : Bool) → (find p xs ≡ None → find p (xs ++ ys) ≡ find p ys) → (if b then Some x else find p xs) ≡ None → (if b then Some x else find p (xs ++ ys)) ≡ find p ys
      by true more e = let bad : Some x ≡ None = e in cc
      by false more e = more e

  find-head : (x : X) (xs : List X) → p x ≡ true → find p (x ∷ xs) ≡ Some x
  find-head x xs t = ap (λ (b : Bool). if b then Some x else find p xs) t

  find-not_head : (x : X) (xs : List X) → p x ≡ false → find p (x ∷ xs) ≡ find p xs
  find-not_head x xs f = ap (λ (b : Bool). if b then Some x else find p xs) f

-- ---- the first number that passes

pub found_first : (p : ℕ → Bool) (count n : ℕ) → n < count → find p (below n) ≡ None → p n ≡ true → find p (below count) ≡ Some n
found_first p count n lt none passes = let split = below_split n count lt in ap (find p) split.1 ∙ find-none_append p (below n) (n ∷ split.0) none ∙ find-head p n split.0 passes

pub none_more : (p : ℕ → Bool) (n : ℕ) → find p (below n) ≡ None → p n ≡ false → find p (below (n + 1)) ≡ None
none_more p n none fails = ap (find p) (below_more n) ∙ find-none_append p (below n) (n ∷ []) none ∙ find-not_head p n [] fails

-- ---- the first that passes of what the numbers give

module _ {X : Type 0} (f : ℕ → Option X) (p : X → Bool) where
  given_some : (n : ℕ) (rest : List ℕ) (x : X) → f n ≡ Some x → filter_map f (n ∷ rest) ≡ x ∷ filter_map f rest
  given_some n rest x is = ap (λ (o : Option X). cons_option o (filter_map f rest)) is

  pub found_given : (count n : ℕ) (x : X) → n < count → find p (filter_map f (below n)) ≡ None → f n ≡ Some x → p x ≡ true → find p (filter_map f (below count)) ≡ Some x
  found_given count n x lt none is passes =
      let split = below_split n count lt in
      ap (λ (ns : List ℕ). find p (filter_map f ns)) split.1
      ∙ ap (find p) (filter_map-append f (below n) (n ∷ split.0))
      ∙ find-none_append p (filter_map f (below n)) (filter_map f (n ∷ split.0)) none
      ∙ ap (find p) (given_some n split.0 x is)
      ∙ find-head p x (filter_map f split.0) passes

  pub none_given : (n : ℕ) → find p (filter_map f (below n)) ≡ None → f n ≡ None → find p (filter_map f (below (n + 1))) ≡ None
  none_given n none is =
      ap (λ (ns : List ℕ). find p (filter_map f ns)) (below_more n)
      ∙ ap (find p) (filter_map-append f (below n) (n ∷ []))
      ∙ find-none_append p (filter_map f (below n)) (filter_map f (n ∷ [])) none
      ∙ ap (λ (o : Option X). find p (cons_option o [])) is

  pub none_passes : (n : ℕ) (x : X) → find p (filter_map f (below n)) ≡ None → f n ≡ Some x → p x ≡ false → find p (filter_map f (below (n + 1))) ≡ None
  none_passes n x none is fails =
      ap (λ (ns : List ℕ). find p (filter_map f ns)) (below_more n)
      ∙ ap (find p) (filter_map-append f (below n) (n ∷ []))
      ∙ find-none_append p (filter_map f (below n)) (filter_map f (n ∷ [])) none
      ∙ ap (find p) (given_some n [] x is)
      ∙ find-not_head p x [] fails

-- ---- what a number gives, where it passes

module _ {X : Type 0} (f : ℕ → Option X) (p : X → Bool) where
  abbrev kept : ℕ → Option X
  kept n = option_and_then (λ x. if p x then Some x else None) (f n)

  kept_is : (n : ℕ) (x : X) → kept n ≡ Some x → (f n ≡ Some x) × (p x ≡ true)
  kept_is n x e = by (f n) refl e
    where
      by : (o : Option X) → f n ≡ o → option_and_then (λ x. if p x then Some x else None) o ≡ Some x → (f n ≡ Some x) × (p x ≡ true)
      by None is e = let bad : None ≡ Some x = e in cc
      by (Some y) is e = test (p y) refl e
        where
          test : (b : Bool) → p y ≡ b → (if b then Some y else None) ≡ Some x → (f n ≡ Some x) × (p x ≡ true)
          test true t e = (is ∙ e, subst (λ z. p z ≡ true) (let same : y ≡ x = cc in same) t)
          test false t e = let bad : None ≡ Some x = e in cc

  pub kept_first : (count n : ℕ) (x : X) → n < count → find p (filter_map f (below n)) ≡ None → kept n ≡ Some x → find p (filter_map f (below count)) ≡ Some x
  kept_first count n x lt none e = let is = kept_is n x e in found_given f p count n x lt none is.0 is.1

  pub kept_none : (n : ℕ) → find p (filter_map f (below n)) ≡ None → kept n ≡ None → find p (filter_map f (below (n + 1))) ≡ None
  kept_none n none e = by (f n) refl e
    where
      by : (o : Option X) → f n ≡ o → option_and_then (λ x. if p x then Some x else None) o ≡ None → find p (filter_map f (below (n + 1))) ≡ None
      by None is e = none_given f p n none is
      by (Some y) is e = test (p y) refl e
        where
          test : (b : Bool) → p y ≡ b → (if b then Some y else None) ≡ None → find p (filter_map f (below (n + 1))) ≡ None
          test true t e = let bad : Some y ≡ None = e in cc
          test false t e = none_passes f p n y none is t

  -- as a walk finds it
  pub kept_ends : (count n : ℕ) → n < count → find p (filter_map f (below n)) ≡ None → (o : Option X) → o ≡ kept n → is_some o ≡ true → o ≡ find p (filter_map f (below count))
  kept_ends count n lt none None is e = absurd (true≢false (sym e))
  kept_ends count n lt none (Some x) is e = sym (kept_first count n x lt none (sym is))

  pub kept_goes : (n : ℕ) → find p (filter_map f (below n)) ≡ None → (o : Option X) → o ≡ kept n → is_some o ≡ false → find p (filter_map f (below (n + 1))) ≡ None
  kept_goes n none None is e = kept_none n none (sym is)
  kept_goes n none (Some x) is e = absurd (true≢false e)

-- ---- all that pass

module _ (p q : ℕ → Bool) where
  -- one that passes and isn't so
  pub all_broken : (count n : ℕ) → n < count → p n ≡ true → q n ≡ false → list_all q (filter p (below count)) ≡ false
  all_broken count n lt passes fails =
      false_from_ne_true (list_all q (filter p (below count))) (λ all. true≢false (sym (all_member q (filter p (below count)) n all (Has-filter p n (below count) (in_below count n lt) passes)) ∙ fails))

  pub all_more : (n : ℕ) → list_all q (filter p (below n)) ≡ true → (p n ≡ false) ⊎ (q n ≡ true) → list_all q (filter p (below (n + 1))) ≡ true
  all_more n all why =
      ap (list_all q) (filter_below_more p n) ∙ list_all-append q (filter p (below n)) (cond (p n) (n ∷ []) [])
      ∙ and_true (list_all q (filter p (below n))) (list_all q (cond (p n) (n ∷ []) [])) all (by (p n) refl)
    where
      by : (b : Bool) → p n ≡ b → list_all q (cond b (n ∷ []) []) ≡ true
      by false e = refl
      by true e = and_true (q n) true (elim why [ inl away ↦ absurd (true≢false (sym e ∙ away)) | inr so ↦ so ]) refl

  -- the same by one test
  pub broken_by : (count n : ℕ) → n < count → (p n && not (q n)) ≡ true → list_all q (filter p (below count)) ≡ false
  broken_by count n lt e = let parts = both_true (p n) (not (q n)) e in all_broken count n lt parts.0 (not_so (q n) parts.1)

  pub held_by : (n : ℕ) → list_all q (filter p (below n)) ≡ true → (p n && not (q n)) ≡ false → list_all q (filter p (below (n + 1))) ≡ true
  held_by n all e = all_more n all (go (p n) (q n) e)
    where
      go : (a b : Bool) → (a && not b) ≡ false → (a ≡ false) ⊎ (b ≡ true)
      go false b e = inl refl
      go true true e = inr refl
      go true false e = absurd (true≢false e)
