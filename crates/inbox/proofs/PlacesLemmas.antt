-- Places side by side: no two numbers share one.
use Rattle.std.proofs.Common.{◌≡◌, ◌<◌, ◌≤◌, ◌+◌, ◌-◌, ℕ, zero, suc, [], ◌∷◌, ◌++◌, ap, ◌∙◌, subst, inl, inr, arith}
use Rattle.std.specs.List.{sum_by, range_with_len}
use Rattle.std.proofs.lemmas.Bool.{cases_lt}
use Rattle.std.proofs.lemmas.List.Sums.{sum_by-append}
use Rattle.blz_value.specs.Members.{Has}
use Rattle.blz_value.specs.NumberSets.{below}
use Rattle.blz_value.proofs.Ranges.{range_more}
use Rattle.inbox.specs.Places.{places_before}

pub below_more : (n : ℕ) → below (n + 1) ≡ below n ++ n ∷ []
below_more n =
    let one : n + 1 ≡ suc n = omega arith in
    let own : 0 + n ≡ n = omega arith in
    ap (range_with_len 0) one ∙ range_more 0 n ∙ ap (λ (k : ℕ). range_with_len 0 n ++ k ∷ []) own

module _ (size : ℕ → ℕ) where
  pub before-more : (n : ℕ) → places_before size (n + 1) ≡ places_before size n + size n
  before-more n = ap (sum_by size) (below_more n) ∙ sum_by-append size (below n) (n ∷ []) ∙ (let e : places_before size n + (0 + size n) ≡ places_before size n + size n = omega arith in e)

  before-add : (n d : ℕ) → places_before size n ≤ places_before size (n + d)
  before-add n zero = ap-le (let e : n ≡ n + 0 = omega arith in ap (places_before size) e)
    where
      ap-le : {a b : ℕ} → a ≡ b → a ≤ b
      ap-le e = omega (arith, e)
  before-add n (suc d) = omega (arith, before-add n d, before-more (n + d), (let e : n + suc d ≡ n + d + 1 = omega arith in ap (places_before size) e))

  pub before-le : (m n : ℕ) → m ≤ n → places_before size m ≤ places_before size n
  before-le m n le = (let e : m + (n - m) ≡ n = omega arith in subst (λ k. places_before size m ≤ places_before size k) e (before-add m (n - m)))

  -- a place lies before those of later numbers
  pub place-before : (n k later : ℕ) → k < size n → n < later → places_before size n + k < places_before size later
  place-before n k later within less = omega (arith, before-more n, before-le (n + 1) later (omega arith))

  pub one_place : (n k m j : ℕ) → k < size n → j < size m → places_before size n + k ≡ places_before size m + j → (n ≡ m) × (k ≡ j)
  one_place n k m j inside within same = elim (cases_lt n m) [
    | inl less ↦ absurd (omega (arith, place-before n k m inside less))
    | inr more ↦ elim (cases_lt m n) [
      | inl less ↦ absurd (omega (arith, place-before m j n within less))
      | inr not_more ↦
          let numbers : n ≡ m = omega arith in
          (numbers, omega (arith, ap (places_before size) numbers))
    ]
  ]

pub range_has : (a n q : ℕ) → a ≤ q → q < a + n → Has q (range_with_len a n)
range_has a zero q from less = absurd (omega (arith, from, less))
range_has a (suc n) q from less = elim (cases_lt a q) [
  | inl later ↦ inr (range_has (a + 1) n q (omega (arith, later)) (omega (arith, less)))
  | inr first ↦ inl (omega (arith, from, first))
]
