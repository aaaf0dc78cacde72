-- How often keys are given.
use Rattle.std.specs.Prelude.{ℕ, zero, suc, ◌≡◌, ◌<◌, Option, None, Some, List, ◌∷◌, length, filter}
use Rattle.std.specs.BTreeMap.{BTreeMap, get}
use Rattle.std.specs.Ordering.{eq_by_cmp}
use Rattle.std.specs.declared.cmp.Ordering.{Ordering}

-- the most keys that are counted
abbrev pub most_given : ℕ
most_given = 4294967295

-- how often a list gives a key
abbrev pub times : {K : Type 0} → (K → K → Ordering) → List K → K → ℕ
times cmp keys key = length (filter (λ other. eq_by_cmp cmp other key) keys)

-- what stands at a key that is given so often
abbrev pub given : ℕ → Option ℕ
given zero = None
given (suc count) = Some (suc count)

-- at each key stands how often the list gives it, and nothing where it doesn't
abbrev pub AreCounted : {K : Type 0} → (K → K → Ordering) → List K → BTreeMap K ℕ → Type 0
AreCounted {K} cmp keys counts = (key : K) → get cmp counts key ≡ given (times cmp keys key)

-- a key is given once more
abbrev pub CountsMore : {K : Type 0} → (K → K → Ordering) → K → (old new : BTreeMap K ℕ) → Type 0
CountsMore {K} cmp key old new = (keys : List K) → length keys < most_given → AreCounted cmp keys old → AreCounted cmp (key ∷ keys) new

-- a key is given once less
abbrev pub CountsLess : {K : Type 0} → (K → K → Ordering) → K → (old new : BTreeMap K ℕ) → Type 0
CountsLess {K} cmp key old new = (keys : List K) → AreCounted cmp (key ∷ keys) old → AreCounted cmp keys new

-- a key that is given once less is given still
abbrev pub IsStill : {K : Type 0} → (K → K → Ordering) → K → BTreeMap K ℕ → Type 0
IsStill {K} cmp key old = (keys : List K) → AreCounted cmp (key ∷ keys) old → 0 < times cmp keys key

-- a key that is given once less is given no more
abbrev pub IsOnce : {K : Type 0} → (K → K → Ordering) → K → BTreeMap K ℕ → Type 0
IsOnce {K} cmp key old = (keys : List K) → AreCounted cmp (key ∷ keys) old → times cmp keys key ≡ 0
