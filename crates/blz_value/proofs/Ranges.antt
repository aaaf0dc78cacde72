-- The numbers from a number on: one number more, and which there are.
use Rattle.std.proofs.Common.{List, [], add-zero, ap, arith, suc, sym, zero, ℕ, ◌≡◌, ◌∙◌, ◌+◌, ◌++◌, ◌∷◌, map, ◌<◌, inl, inr, Bool, cond, filter, subst, get_or, length, true}
use Rattle.std.specs.List.{range_with_len, flat_map, list_any}
use Rattle.std.proofs.lemmas.List.FromFn.{map-range_with_len_more, get_or-map-range_with_len, length-map-range_with_len}
use Rattle.blz_value.specs.Members.{Has}
use Rattle.blz_value.specs.NumberSets.{below}
use Rattle.blz_value.proofs.MembersInOrder.{from_range, in_range}
use Rattle.std.proofs.lemmas.List.Elements.{filter-append}
use Rattle.std.proofs.lemmas.List.{append-nil}
use Rattle.std.proofs.lemmas.Grind.{flat_map-append}
use Rattle.blz_value.proofs.Membership.{any_from_Has}

pub range_more : (a n : ℕ) → range_with_len a (suc n) ≡ range_with_len a n ++ (a + n) ∷ []
range_more a zero = ap (λ m. m ∷ []) (sym (add-zero a))
range_more a (suc n) = ap (λ (l : List ℕ). a ∷ l) (range_more (a + 1) n ∙ ap (λ m. range_with_len (a + 1) n ++ m ∷ []) (let e : (a + 1) + n ≡ a + suc n = omega arith in e))

pub below_more : (n : ℕ) → range_with_len 0 (n + 1) ≡ range_with_len 0 n ++ n ∷ []
below_more n =
    let one : n + 1 ≡ suc n = omega arith in
    let own : 0 + n ≡ n = omega arith in
    ap (range_with_len 0) one ∙ range_more 0 n ∙ ap (λ (k : ℕ). range_with_len 0 n ++ k ∷ []) own

-- one more
pub map_below_more : {X : Type 0} (f : ℕ → X) (n : ℕ) → map f (range_with_len 0 (n + 1)) ≡ map f (range_with_len 0 n) ++ f n ∷ []
map_below_more f n = map-range_with_len_more f 0 n n (omega arith)

pub Has-below : (count k : ℕ) → Has k (below count) → k < count
Has-below count k h = let both = from_range 0 count k h in omega (arith, both.1)

pub Has-range : (a n q : ℕ) → Has q (range_with_len a n) → q < a + n
Has-range a zero q h = absurd h
Has-range a (suc n) q (inl same) = omega (arith, same)
Has-range a (suc n) q (inr h) = omega (arith, Has-range (a + 1) n q h)

pub filter_below_more : (p : ℕ → Bool) (n : ℕ) → filter p (range_with_len 0 (n + 1)) ≡ filter p (range_with_len 0 n) ++ cond (p n) (n ∷ []) []
filter_below_more p n = ap (filter p) (below_more n) ∙ filter-append p (range_with_len 0 n) (n ∷ [])

pub flat_below_more : {X : Type 0} (f : ℕ → List X) (n : ℕ) → flat_map f (range_with_len 0 (n + 1)) ≡ flat_map f (range_with_len 0 n) ++ f n
flat_below_more {X = X} f n = ap (flat_map f) (below_more n) ∙ flat_map-append f (range_with_len 0 n) (n ∷ []) ∙ ap (λ (last : List X). flat_map f (range_with_len 0 n) ++ last) (append-nil (f n))

pub in_range_from : (a n q : ℕ) → q < n → Has (a + q) (range_with_len a n)
in_range_from a zero q less = absurd (omega arith)
in_range_from a (suc n) zero less = inl (let e : a ≡ a + 0 = omega arith in e)
in_range_from a (suc n) (suc q) less = inr (let e : a + 1 + q ≡ a + suc q = omega arith in subst (λ k. Has k (range_with_len (a + 1) n)) e (in_range_from (a + 1) n q (omega arith)))

-- looked up at one of them
pub at_below : {X : Type 0} (f : ℕ → X) (n c : ℕ) (d : X) → c < n → get_or (map f (range_with_len 0 n)) c d ≡ f c
at_below f n c d lt = get_or-map-range_with_len f 0 n c c d lt (omega arith)

pub length_below : {X : Type 0} (f : ℕ → X) (n : ℕ) → length (map f (range_with_len 0 n)) ≡ n
length_below f n = length-map-range_with_len f 0 n

pub is_below : (count n : ℕ) → n < count → Has n (range_with_len 0 count)
is_below count n within = in_range 0 count n (omega arith) (omega arith)

pub Has-from_below : (count n : ℕ) → Has n (range_with_len 0 count) → n < count
Has-from_below count n h = omega (arith, (from_range 0 count n h).1)

pub any_below : (p : ℕ → Bool) (n k : ℕ) → k < n → p k ≡ true → list_any p (range_with_len 0 n) ≡ true
any_below p n k less e = any_from_Has p k (range_with_len 0 n) (is_below n k less) e
