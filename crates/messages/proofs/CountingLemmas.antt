-- Sums and counts over the numbers below a number: one number more, one more that passes, and those that don't pass.
use Rattle.std.proofs.Common.{◌≡◌, ◌≢◌, ◌<◌, ◌≤◌, ◌+◌, ◌-◌, ◌==◌, ◌||◌, ℕ, zero, suc, Bool, true, false, not, cond, refl, ap, ◌∙◌, sym, inl, inr, arith}
use Rattle.std.specs.List.{count_by, sum_by, range_with_len}
use Rattle.std.proofs.lemmas.Bool.{cases_Bool, cases_order, eq-eqb, ne_eqb, or_left, or_right}
use Rattle.std.proofs.lemmas.List.FromFn.{length-range_with_len}
use Rattle.std.proofs.lemmas.List.Sums.{sum_by_push, count_by-le-length}
use Rattle.blz_value.proofs.Ranges.{below_more}
use Rattle.messages.specs.Numbers.{IsCountOf}

-- ---- one more number

pub sum_below_more : (f : ℕ → ℕ) (n : ℕ) → sum_by f (range_with_len 0 (n + 1)) ≡ sum_by f (range_with_len 0 n) + f n
sum_below_more f n = ap (sum_by f) (below_more n) ∙ sum_by_push f (range_with_len 0 n) n

pub count_below_more : (p : ℕ → Bool) (n : ℕ) (b : Bool) → p n ≡ b → count_by p (range_with_len 0 (n + 1)) ≡ count_by p (range_with_len 0 n) + cond b 1 0
count_below_more p n b is = sum_below_more (λ k. cond (p k) 1 0) n ∙ ap (λ t. count_by p (range_with_len 0 n) + cond t 1 0) is

pub few_below : (p : ℕ → Bool) (n : ℕ) → count_by p (range_with_len 0 n) ≤ n
few_below p n = omega (arith, count_by-le-length p (range_with_len 0 n), length-range_with_len 0 n)

-- the same, for a proof by the number
count_next : (p : ℕ → Bool) (n : ℕ) (b : Bool) → p n ≡ b → count_by p (range_with_len 0 (suc n)) ≡ count_by p (range_with_len 0 n) + cond b 1 0
count_next p n b is = (let one : suc n ≡ n + 1 = omega arith in ap (λ k. count_by p (range_with_len 0 k)) one) ∙ count_below_more p n b is

-- ---- tests that agree

pub count_same : (p q : ℕ → Bool) (n : ℕ) → ((k : ℕ) → k < n → p k ≡ q k) → count_by p (range_with_len 0 n) ≡ count_by q (range_with_len 0 n)
count_same p q zero same = refl
count_same p q (suc n) same =
    count_next p n (q n) (same n (omega arith))
    ∙ ap (λ m. m + cond (q n) 1 0) (count_same p q n (λ k less. same k (omega (arith, less))))
    ∙ sym (count_next q n (q n) refl)

-- ---- one number more passes

count_also : (old new : ℕ → Bool) (i n : ℕ) → i < n → old i ≡ false → new i ≡ true → ((k : ℕ) → k ≢ i → new k ≡ old k) → count_by new (range_with_len 0 n) ≡ count_by old (range_with_len 0 n) + 1
count_also old new i zero less was is others = absurd (omega (arith, less))
count_also old new i (suc n) less was is others = elim (cases_order n i) [
  | inl last ↦
      let before : count_by new (range_with_len 0 n) ≡ count_by old (range_with_len 0 n) = count_same new old n (λ k inside. others k (λ same. omega (arith, inside, last, same))) in
      let one : count_by new (range_with_len 0 (suc n)) ≡ count_by new (range_with_len 0 n) + 1 = count_next new n true (ap new last ∙ is) in
      let none : count_by old (range_with_len 0 (suc n)) ≡ count_by old (range_with_len 0 n) + 0 = count_next old n false (ap old last ∙ was) in
      omega (arith, before, one, none)
  | inr apart ↦ elim apart [
    | inl under ↦ absurd (omega (arith, under, less))
    | inr over ↦
        let before : count_by new (range_with_len 0 n) ≡ count_by old (range_with_len 0 n) + 1 = count_also old new i n over was is others in
        let same : new n ≡ old n = others n (λ e. omega (arith, over, e)) in
        let mine : count_by new (range_with_len 0 (suc n)) ≡ count_by new (range_with_len 0 n) + cond (old n) 1 0 = count_next new n (old n) same in
        let its : count_by old (range_with_len 0 (suc n)) ≡ count_by old (range_with_len 0 n) + cond (old n) 1 0 = count_next old n (old n) refl in
        omega (arith, before, mine, its)
  ]
]

-- ---- those that don't pass

count_both : (p : ℕ → Bool) (n : ℕ) → count_by p (range_with_len 0 n) + count_by (λ k. not (p k)) (range_with_len 0 n) ≡ n
count_both p zero = refl
count_both p (suc n) = elim (cases_Bool (p n)) [
  | inl passes ↦
      let one : count_by p (range_with_len 0 (suc n)) ≡ count_by p (range_with_len 0 n) + 1 = count_next p n true passes in
      let none : count_by (λ k. not (p k)) (range_with_len 0 (suc n)) ≡ count_by (λ k. not (p k)) (range_with_len 0 n) + 0 = count_next (λ k. not (p k)) n false (ap not passes) in
      omega (arith, count_both p n, one, none)
  | inr fails ↦
      let none : count_by p (range_with_len 0 (suc n)) ≡ count_by p (range_with_len 0 n) + 0 = count_next p n false fails in
      let one : count_by (λ k. not (p k)) (range_with_len 0 (suc n)) ≡ count_by (λ k. not (p k)) (range_with_len 0 n) + 1 = count_next (λ k. not (p k)) n true (ap not fails) in
      omega (arith, count_both p n, one, none)
]

-- ---- a number of numbers that pass

pub none_counted : (p : ℕ → Bool) → ((k : ℕ) → p k ≡ false) → IsCountOf p 0
none_counted p none n within = go n
  where
    go : (m : ℕ) → count_by p (range_with_len 0 m) ≡ 0
    go zero = refl
    go (suc m) = (let step : count_by p (range_with_len 0 (suc m)) ≡ count_by p (range_with_len 0 m) + 0 = count_next p m false (none m) in omega (arith, step, go m))

pub same_counted : (p q : ℕ → Bool) (count : ℕ) → ((k : ℕ) → q k ≡ p k) → IsCountOf p count → IsCountOf q count
same_counted p q count same is n within = count_same q p n (λ k less. same k) ∙ is n (λ k h. within k (same k ∙ h))

pub one_counted : (p q : ℕ → Bool) (i count : ℕ) → p i ≡ false → ((k : ℕ) → q k ≡ (k == i || p k)) → IsCountOf p count → IsCountOf q (count + 1)
one_counted p q i count was also is n within =
    let own : q i ≡ true = also i ∙ or_left (i == i) (p i) (eq-eqb i i refl) in
    let others : (k : ℕ) → k ≢ i → q k ≡ p k = λ k apart. also k ∙ ap (λ b. b || p k) (ne_eqb k i apart) in
    count_also p q i n (within i own) was own others
    ∙ ap (λ m. m + 1) (is n (λ k h. within k (also k ∙ or_right (k == i) (p k) h)))

pub few_counted : (p : ℕ → Bool) (n count : ℕ) → IsCountOf p count → ((k : ℕ) → p k ≡ true → k < n) → count ≤ n
few_counted p n count is within = omega (arith, is n within, few_below p n)

-- all numbers below one that is above those that pass, less these, don't pass
pub count_others : (p : ℕ → Bool) (n count : ℕ) → IsCountOf p count → ((k : ℕ) → p k ≡ true → k < n) → n - count ≡ count_by (λ k. not (p k)) (range_with_len 0 n)
count_others p n count is within = omega (arith, is n within, count_both p n)
