-- No more records of a partition are counted on a feed than ids are known there.
use Rattle.std.proofs.Common.{◌≡◌, ◌+◌, ◌≤◌, ◌==◌, ℕ, Bool, true, false, cond, List, arith}
use Rattle.std.specs.Prelude.{Result, Ok, Err, OnOk, OnErr}
use Rattle.messages.specs.Numbers.{has_number, HasAlso, IsCountOf}
use Rattle.messages.proofs.CountingLemmas.{one_counted}
use Rattle.messages.proofs.NumbersLemmas.{one_count}

-- one id is new, and at most one record more is counted
pub few_more : (old new : List ℕ) (id heard have more : ℕ) → have ≤ heard → more ≤ have + 1 → IsCountOf (has_number old) heard → has_number old id ≡ false → HasAlso id old new → (count : ℕ) → IsCountOf (has_number new) count → more ≤ count
few_more old new id heard have more few one counted absent also count is =
    let next : IsCountOf (has_number new) (heard + 1) = one_counted (has_number old) (has_number new) id heard absent also counted in
    let same : count ≡ heard + 1 = one_count new count (heard + 1) is next in
    omega (arith, same, few, one)

-- a count that gets one more or none
at_most_one : (b : Bool) (have more : ℕ) → more ≡ cond b (have + 1) have → more ≤ have + 1
at_most_one true have more is = omega (arith, is)
at_most_one false have more is = omega (arith, is)

-- so does each, whether there was memory or not
pub one_more : {E : Type 0} (r : Result (Unit {0}) E) (now was : ℕ → ℕ) (number : ℕ) → OnOk r ((n : ℕ) → now n ≡ cond (n == number) (was n + 1) (was n)) → OnErr r ((n : ℕ) → now n ≡ was n) → (n : ℕ) → now n ≤ was n + 1
one_more (Ok x) now was number ok err n = at_most_one (n == number) (was n) (now n) (ok n)
one_more (Err e) now was number ok err n = (let same : now n ≡ was n = err n in omega (arith, same))
