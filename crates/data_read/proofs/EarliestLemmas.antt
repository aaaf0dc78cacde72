-- The earliest record with which a new one disagrees, found from the earliest that agrees on each side.
--
-- Where no two earlier records disagree, those that agree with one of them on one side are those that agree with it on the other. So the
-- earliest that agree with the new one on the two sides are the same record, and then nothing disagrees with it, or all that agree on
-- either side disagree with it.
use Rattle.std.proofs.Common.{◌≡◌, ℕ, suc, ◌+◌, ◌-◌, ◌<◌, ◌≤◌, ◌==◌, min, Bool, true, false, Option, None, Some, option_map, IfSome, List, [], ◌∷◌, ◌++◌, length, get_or, refl, ap, sym, subst, ◌∙◌, inl, inr, ◌⊎◌, arith, if◌then◌else◌}
use Rattle.std.specs.Cmp.{eq_by_cmp_equiv}
use Rattle.std.specs.List.{position_from}
use Rattle.std.proofs.lemmas.Bool.{cases_Bool}
use Rattle.std.proofs.lemmas.Bool.Decides.{nat_tests}
use Rattle.std.proofs.lemmas.Map.Views.{tells_apart}
use Rattle.blz_value.specs.Members.{Has}
use Rattle.blz_value.specs.Record.{Row}
use Rattle.blz_value.specs.RecordOrder.{record_cmp_total, record_cmp_exact}
use Rattle.blz_value.proofs.Membership.{Has-append_cases}
use Rattle.blz_value.proofs.Booleans.{same_truth}
use Rattle.data_read.specs.Broken.{Sides, same, differ, disagree, first_such}
use Rattle.data_read.specs.Code.Earliest.{place_by_from, place_by_to, one_place}

-- ---- records as values

pub same-itself : (a : Row) → same a a ≡ true
same-itself a = (eq_by_cmp_equiv record_cmp_total).refl a

pub same-is : (a b : Row) → same a b ≡ true → a ≡ b
same-is a b e = tells_apart record_cmp_exact a b e

pub same-sym : (a b : Row) → same a b ≡ same b a
same-sym a b = same_truth (same a b) (same b a) (λ e. subst (λ x. same x a ≡ true) (same-is a b e) (same-itself a)) (λ e. subst (λ x. same x b ≡ true) (same-is b a e) (same-itself b))

pub differ_none : (p q : Bool) → differ p q ≡ false → p ≡ q
differ_none true true e = refl
differ_none true false e = e
differ_none false true e = sym e
differ_none false false e = refl

differ_same : (p q : Bool) → p ≡ q → differ p q ≡ false
differ_same true true e = refl
differ_same true false e = e
differ_same false true e = sym e
differ_same false false e = refl

-- no two of some records disagree
abbrev pub AllAgree : List Sides → Type 0
AllAgree xs = (a b : Sides) → Has a xs → Has b xs → same a.from b.from ≡ same a.to b.to

pub none_such : (test : Sides → Bool) (xs : List Sides) (y : Sides) → first_such test xs ≡ None → Has y xs → test y ≡ false
none_such test [] y e h = absurd h
none_such test (x ∷ xs) y e h = elim (cases_Bool (test x)) [
  | inl t ↦ (let bad : Some x ≡ None = rw t at e in cc)
  | inr f ↦ (let rest : first_such test xs ≡ None = rw f at e in here f (none_such test xs y rest) h)
]
  where
    here : test x ≡ false → (Has y xs → test y ≡ false) → Has y (x ∷ xs) → test y ≡ false
    here f rest (inl s) = ap test (sym s) ∙ f
    here f rest (inr n) = rest n

-- with one more, with which none disagrees
pub agree_more : (xs : List Sides) (x : Sides) → AllAgree xs → first_such (disagree x) xs ≡ None → AllAgree (xs ++ x ∷ [])
agree_more xs x agree none a b p q = go (Has-append_cases a xs (x ∷ []) p) (Has-append_cases b xs (x ∷ []) q)
  where
    with_new : (y : Sides) → Has y xs → same x.from y.from ≡ same x.to y.to
    with_new y h = differ_none (same x.from y.from) (same x.to y.to) (none_such (disagree x) xs y none h)

    go : Has a xs ⊎ Has a (x ∷ []) → Has b xs ⊎ Has b (x ∷ []) → same a.from b.from ≡ same a.to b.to
    go (inl m) (inl n) = agree a b m n
    go (inl m) (inr (inl e)) = subst (λ (z : Sides). same a.from z.from ≡ same a.to z.to) e (same-sym a.from x.from ∙ with_new a m ∙ same-sym x.to a.to)
    go (inl m) (inr (inr n)) = absurd n
    go (inr (inl e)) (inl n) = subst (λ (z : Sides). same z.from b.from ≡ same z.to b.to) e (with_new b n)
    go (inr (inl e)) (inr (inl f)) = subst (λ (z : Sides). same z.from b.from ≡ same z.to b.to) e (subst (λ (z : Sides). same x.from z.from ≡ same x.to z.to) f (same-itself x.from ∙ sym (same-itself x.to)))
    go (inr (inl e)) (inr (inr n)) = absurd n
    go (inr (inr n)) rest = absurd n

-- ---- places

pub place_from : {X : Type 0} (test : X → Bool) (i : ℕ) (xs : List X) → IfSome (position_from test i xs) (λ k. (i ≤ k) × (k < i + length xs))
place_from test i [] = tt
place_from test i (x ∷ xs) = elim (cases_Bool (test x)) [
  | inl t ↦ rw t (omega arith, omega arith)
  | inr f ↦ rw f (later (position_from test (i + 1) xs) (place_from test (i + 1) xs))
]
  where
    later : (o : Option ℕ) → IfSome o (λ k. (i + 1 ≤ k) × (k < i + 1 + length xs)) → IfSome o (λ k. (i ≤ k) × (k < i + suc (length xs)))
    later None h = tt
    later (Some k) h = (omega arith, omega arith)

first_one : (i : ℕ) (second : Option ℕ) → IfSome second (λ k. i + 1 ≤ k) → one_place (Some i) second ≡ Some i
first_one i None h = refl
first_one i (Some k) h = rw (other i k (omega arith), least i k (omega arith)) refl
  where
    other : (i k : ℕ) → i < k → (i == k) ≡ false
    other i k lt = grind (arith, nat_tests)

    least : (i k : ℕ) → i < k → min i k ≡ i
    least i k lt = omega arith

second_one : (first : Option ℕ) (i : ℕ) → IfSome first (λ k. i + 1 ≤ k) → one_place first (Some i) ≡ Some i
second_one None i h = refl
second_one (Some k) i h = rw (other i k (omega arith), least i k (omega arith)) refl
  where
    other : (i k : ℕ) → i < k → (k == i) ≡ false
    other i k lt = grind (arith, nat_tests)

    least : (i k : ℕ) → i < k → min k i ≡ i
    least i k lt = omega arith

no_one : (i : ℕ) → one_place (Some i) (Some i) ≡ None
no_one i = rw (itself i) refl
  where
    itself : (i : ℕ) → (i == i) ≡ true
    itself i = grind (arith, nat_tests)

-- the place of the first record at which one of two tests holds
module _ (from to : Sides → Bool) where
  abbrev one_of : Sides → Bool
  one_of y = differ (from y) (to y)

  -- what a record with both says of the rest: none has one alone
  no_other : (i : ℕ) (xs : List Sides) → ((y : Sides) → Has y xs → from y ≡ to y) → position_from one_of i xs ≡ None
  no_other i [] alike = refl
  no_other i (x ∷ xs) alike = rw (differ_same (from x) (to x) (alike x (inl refl))) (no_other (i + 1) xs (λ y h. alike y (inr h)))

  above : (test : Sides → Bool) (i : ℕ) (xs : List Sides) → IfSome (position_from test i xs) (λ k. i ≤ k)
  above test i xs = weaker (position_from test i xs) (place_from test i xs)
    where
      weaker : (o : Option ℕ) → IfSome o (λ k. (i ≤ k) × (k < i + length xs)) → IfSome o (λ k. i ≤ k)
      weaker None h = tt
      weaker (Some k) h = h.0

  -- where a record with both has all others with it alike
  pub place_of_one : (i : ℕ) (xs : List Sides) → ((x y : Sides) → Has x xs → Has y xs → from x ≡ true → to x ≡ true → from y ≡ to y)
      → position_from one_of i xs ≡ one_place (position_from from i xs) (position_from to i xs)
  place_of_one i [] alike = refl
  place_of_one i (x ∷ xs) alike = go (from x) (to x) refl refl (place_of_one (i + 1) xs (λ a b m n. alike a b (inr m) (inr n)))
    where
      go : (p q : Bool) → from x ≡ p → to x ≡ q → position_from one_of (i + 1) xs ≡ one_place (position_from from (i + 1) xs) (position_from to (i + 1) xs) → position_from one_of i (x ∷ xs) ≡ one_place (position_from from i (x ∷ xs)) (position_from to i (x ∷ xs))
      go true true e f later = rw (e, f) (no_other (i + 1) xs (λ y h. alike x y (inl refl) (inr h) e f) ∙ sym (no_one i))
      go true false e f later = rw (e, f) (sym (first_one i (position_from to (i + 1) xs) (above to (i + 1) xs)))
      go false true e f later = rw (e, f) (sym (second_one (position_from from (i + 1) xs) i (above from (i + 1) xs)))
      go false false e f later = rw (e, f) later

-- the first record at which a test holds, by its place
pub such_at : (test : Sides → Bool) (i : ℕ) (xs : List Sides) (d : Sides) → first_such test xs ≡ option_map (λ k. get_or xs (k - i) d) (position_from test i xs)
such_at test i [] d = refl
such_at test i (x ∷ xs) d = elim (cases_Bool (test x)) [
  | inl t ↦ (let none : i - i ≡ 0 = omega arith in rw (t, none) refl)
  | inr f ↦ rw f (such_at test (i + 1) xs d ∙ shift (position_from test (i + 1) xs) (place_from test (i + 1) xs))
]
  where
    shift : (o : Option ℕ) → IfSome o (λ k. (i + 1 ≤ k) × (k < i + 1 + length xs)) → option_map (λ k. get_or xs (k - (i + 1)) d) o ≡ option_map (λ k. get_or (x ∷ xs) (k - i) d) o
    shift None h = refl
    shift (Some k) h = let next : k - i ≡ suc (k - (i + 1)) = omega arith in ap Some (sym (ap (λ n. get_or (x ∷ xs) n d) next))

-- ---- the first records, by number

module _ (firsts : List Sides) (agree : AllAgree firsts) (x d : Sides) where
  abbrev from_test : Sides → Bool
  from_test y = same x.from y.from

  abbrev to_test : Sides → Bool
  to_test y = same x.to y.to

  alike : (a b : Sides) → Has a firsts → Has b firsts → from_test a ≡ true → to_test a ≡ true → from_test b ≡ to_test b
  alike a b m n e f =
      ap (λ r. same r b.from) (same-is x.from a.from e) ∙ agree a b m n ∙ ap (λ r. same r b.to) (sym (same-is x.to a.to f))

  pub found_place : position_from (disagree x) 0 firsts ≡ one_place (place_by_from firsts x.from) (place_by_to firsts x.to)
  found_place = place_of_one from_test to_test 0 firsts alike

  pub found_such : first_such (disagree x) firsts ≡ option_map (λ k. get_or firsts k d) (one_place (place_by_from firsts x.from) (place_by_to firsts x.to))
  found_such = such_at (disagree x) 0 firsts d ∙ ap (option_map (λ k. get_or firsts (k - 0) d)) found_place ∙ same_places (one_place (place_by_from firsts x.from) (place_by_to firsts x.to))
    where
      same_places : (o : Option ℕ) → option_map (λ k. get_or firsts (k - 0) d) o ≡ option_map (λ k. get_or firsts k d) o
      same_places None = refl
      same_places (Some k) = let none : k - 0 ≡ k = omega arith in ap (λ n. Some (get_or firsts n d)) none

-- ---- one more record

abbrev such_or : Option Sides → Option Sides → Option Sides
such_or None other = other
such_or (Some y) other = Some y

such_more : (test : Sides → Bool) (xs : List Sides) (x : Sides) → first_such test (xs ++ x ∷ []) ≡ such_or (first_such test xs) (if test x then Some x else None)
such_more test [] x = refl
such_more test (y ∷ ys) x = elim (cases_Bool (test y)) [
  | inl t ↦ rw t refl
  | inr f ↦ rw f (such_more test ys x)
]

-- where the first such among some records is that among others, it is so with one more
pub such_next : (test : Sides → Bool) (xs firsts : List Sides) (x : Sides) → first_such test xs ≡ first_such test firsts
    → first_such test (xs ++ x ∷ []) ≡ first_such test (firsts ++ x ∷ [])
such_next test xs firsts x e = such_more test xs x ∙ ap (λ o. such_or o (if test x then Some x else None)) e ∙ sym (such_more test firsts x)

-- and where one like it is among the others, it is so without it there
pub such_known : (test : Sides → Bool) (xs firsts : List Sides) (x y : Sides) → first_such test xs ≡ first_such test firsts → Has y firsts → test x ≡ test y
    → first_such test (xs ++ x ∷ []) ≡ first_such test firsts
such_known test xs firsts x y e h same_test = such_more test xs x ∙ ap (λ o. such_or o (if test x then Some x else None)) e ∙ go (first_such test firsts) refl
  where
    go : (o : Option Sides) → first_such test firsts ≡ o → such_or o (if test x then Some x else None) ≡ o
    go (Some z) f = refl
    go None f = let off : test x ≡ false = same_test ∙ none_such test firsts y f h in rw off refl

-- a record at which a test holds stands among those of which the first has a number
some_has : (test : Sides → Bool) (i : ℕ) (xs : List Sides) (k : ℕ) → position_from test i xs ≡ Some k → (y : Sides) × Has y xs × (test y ≡ true)
some_has test i [] k e = cc
some_has test i (x ∷ xs) k e = elim (cases_Bool (test x)) [
  | inl t ↦ (x, inl refl, t)
  | inr f ↦ (let rest : position_from test (i + 1) xs ≡ Some k = rw f at e in later (some_has test (i + 1) xs k rest))
]
  where
    later : (y : Sides) × Has y xs × (test y ≡ true) → (y : Sides) × Has y (x ∷ xs) × (test y ≡ true)
    later h = (h.0, inr h.1, h.2)

-- a record whose values on one side are known, and which disagrees with none, adds nothing
pub nothing_new : (xs firsts : List Sides) (x z : Sides) (k : ℕ) → first_such (disagree z) xs ≡ first_such (disagree z) firsts → first_such (disagree x) firsts ≡ None
    → place_by_from firsts x.from ≡ Some k → first_such (disagree z) (xs ++ x ∷ []) ≡ first_such (disagree z) firsts
nothing_new xs firsts x z k e none known =
    let y = some_has (λ y. same x.from y.from) 0 firsts k known in
    let from : x.from ≡ y.0.from = same-is x.from y.0.from y.2 in
    let to : x.to ≡ y.0.to = same-is x.to y.0.to (sym (differ_none (same x.from y.0.from) (same x.to y.0.to) (none_such (disagree x) firsts y.0 none y.1)) ∙ y.2) in
    such_known (disagree z) xs firsts x y.0 e y.1 (ap (λ r. differ (same z.from r) (same z.to x.to)) from ∙ ap (λ r. differ (same z.from y.0.from) (same z.to r)) to)
