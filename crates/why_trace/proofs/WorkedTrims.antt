-- Trims of short lists, by computation.
use Rattle.std.proofs.Common.{◌≡◌, ◌==◌, ◌&&◌, ◌||◌, not, ℕ, Bool, List, [], ◌∷◌, refl}
use Rattle.std.specs.List.{list_any}
use Rattle.why_trace.specs.Passes.{one_pass, trim_by}

-- of two elements that would each do, the last goes
pub last_first : trim_by (λ xs. list_any (λ x. x == 8 || x == 9) xs) (9 ∷ 7 ∷ 8 ∷ []) ≡ 9 ∷ []
last_first = refl

-- a list needs 8, and 2 where it has a 1
abbrev asks : List ℕ → Bool
asks xs = list_any (λ x. x == 8) xs && (not (list_any (λ x. x == 1) xs) || list_any (λ x. x == 2) xs)

-- the first pass has to keep 2, since it comes to it before it comes to 1, and a second drops it
pub one_is_too_few : one_pass asks (1 ∷ 2 ∷ 8 ∷ []) ≡ 2 ∷ 8 ∷ []
one_is_too_few = refl

pub two_do : trim_by asks (1 ∷ 2 ∷ 8 ∷ []) ≡ 8 ∷ []
two_do = refl
