-- The key columns in order are as many as the keys.
use Rattle.std.proofs.Common.{◌≡◌, ◌≢◌, ◌<◌, ◌≤◌, ◌+◌, ℕ, zero, suc, Bool, true, false, cond, not, ◌||◌, List, [], ◌∷◌, length, get_or, filter, refl, ap, ◌∙◌, sym, inl, inr, arith}
use Rattle.std.specs.Prelude.{◌==◌, AllPairs}
use Rattle.std.specs.List.{All, list_any, range_with_len}
use Rattle.std.proofs.lemmas.Bool.{cases_eq, eq-eqb, ne_eqb}
use Rattle.std.proofs.lemmas.List.{length-map}
use Rattle.std.proofs.lemmas.List.Filters.{length-filter_both}
use Rattle.std.proofs.lemmas.List.FromFn.{length-range_with_len}
use Rattle.bloom_forms.specs.Query.{Name}
use Rattle.bloom_forms.specs.StockSteps.{keys_in_order}
use Rattle.bloom_forms.specs.Program.{key_columns}

-- with one more test below the range, as many numbers pass
same_past : (test : ℕ → Bool) (k from n : ℕ) → k < from → length (filter (λ c. (k == c) || test c) (range_with_len from n)) ≡ length (filter test (range_with_len from n))
same_past test k from zero lt = refl
same_past test k from (suc n) lt =
    let rest = same_past test k (from + 1) n (omega (arith, lt)) in
    rw (ne_eqb k from (λ e. omega (arith, lt, e))) (kept (test from) rest)
  where
    kept : (b : Bool) → length (filter (λ c. (k == c) || test c) (range_with_len (from + 1) n)) ≡ length (filter test (range_with_len (from + 1) n)) → length (cond b (from ∷ filter (λ c. (k == c) || test c) (range_with_len (from + 1) n)) (filter (λ c. (k == c) || test c) (range_with_len (from + 1) n))) ≡ length (cond b (from ∷ filter test (range_with_len (from + 1) n)) (filter test (range_with_len (from + 1) n)))
    kept true e = ap suc e
    kept false e = e

-- with one more number of the range that passes, one more passes
one_more : (test : ℕ → Bool) (k from n : ℕ) → from ≤ k → k < from + n → test k ≡ false → length (filter (λ c. (k == c) || test c) (range_with_len from n)) ≡ suc (length (filter test (range_with_len from n)))
one_more test k from zero le lt fails = absurd (omega (arith, le, lt))
one_more test k from (suc n) le lt fails = elim (cases_eq k from) [
  | inl e ↦ rw (eq-eqb k from e) (ap suc (same_past test k (from + 1) n (omega (arith, e)))) ∙ ap (λ b. suc (length (cond b (from ∷ filter test (range_with_len (from + 1) n)) (filter test (range_with_len (from + 1) n))))) (sym fails ∙ ap test e)
  | inr ne ↦ rw (ne_eqb k from ne) (kept (test from) (one_more test k (from + 1) n (omega (arith, le, ne)) (omega (arith, lt)) fails))
]
  where
    kept : (b : Bool) → length (filter (λ c. (k == c) || test c) (range_with_len (from + 1) n)) ≡ suc (length (filter test (range_with_len (from + 1) n))) → length (cond b (from ∷ filter (λ c. (k == c) || test c) (range_with_len (from + 1) n)) (filter (λ c. (k == c) || test c) (range_with_len (from + 1) n))) ≡ suc (length (cond b (from ∷ filter test (range_with_len (from + 1) n)) (filter test (range_with_len (from + 1) n))))
    kept true e = ap suc e
    kept false e = e

-- no number passes the test of none
none_pass : (from n : ℕ) → length (filter (λ c. false) (range_with_len from n)) ≡ 0
none_pass from zero = refl
none_pass from (suc n) = none_pass (from + 1) n

-- what none of the numbers is
not_among : (k : ℕ) (keys : List ℕ) → ((j : ℕ) (d : ℕ) → j < length keys → k ≢ get_or keys j d) → list_any (λ key. key == k) keys ≡ false
not_among k [] apart = refl
not_among k (key ∷ keys) apart = rw (ne_eqb key k (λ e. apart 0 0 (omega arith) (sym e))) (not_among k keys (λ j d lt. apart (suc j) d (omega (arith, lt))))

pub length-keys_in_order : (count : ℕ) (keys : List ℕ) → All (λ key. key < count) keys → AllPairs (λ a b. a ≢ b) keys → length (keys_in_order count keys) ≡ length keys
length-keys_in_order count [] below apart = none_pass 0 count
length-keys_in_order count (key ∷ keys) below apart =
    one_more (λ c. list_any (λ k. k == c) keys) key 0 count (omega arith) (omega (arith, below 0 0 (omega arith))) (not_among key keys (λ j d lt. apart 0 (suc j) d (omega arith) (omega (arith, lt))))
    ∙ ap suc (length-keys_in_order count keys (λ k d lt. below (suc k) d (omega (arith, lt))) (λ i j d lt le. apart (suc i) (suc j) d (omega (arith, lt)) (omega (arith, le))))

-- the columns of `ask` are as many as the keys
pub count_of_keys : (columns : List Name) (keys : List ℕ) → All (λ key. key < length columns) keys → AllPairs (λ a b. a ≢ b) keys → length (key_columns columns keys) ≡ length keys
count_of_keys columns keys below apart = length-map (keys_in_order (length columns) keys) (λ key. get_or columns key []) ∙ length-keys_in_order (length columns) keys below apart

-- there are no more keys than columns
pub few_keys : (columns : List Name) (keys : List ℕ) → All (λ key. key < length columns) keys → AllPairs (λ a b. a ≢ b) keys → length keys ≤ length columns
few_keys columns keys below apart =
    let is_key : ℕ → Bool = λ column. list_any (λ key. key == column) keys in
    omega (arith, length-keys_in_order (length columns) keys below apart, length-filter_both is_key (λ c. not (is_key c)) (λ c. refl) (range_with_len 0 (length columns)), length-range_with_len 0 (length columns))
