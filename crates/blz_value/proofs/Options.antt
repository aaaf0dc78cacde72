-- What follows from what there may be.
use Rattle.blz_value.specs.Members.{Has}
use Rattle.blz_value.proofs.Membership.{Has-get_or}
use Rattle.std.proofs.Common.{List, Some, slice_get, subst, ℕ, ◌≡◌, None, Option, refl, suc, [], ap, arith, length, length-append, ◌∷◌, ◌++◌, ◌∙◌, true, Bool, cond, false, get_or, zero, ◌<◌, ◌+◌}
use Rattle.std.proofs.lemmas.Option.{get_or_from_slice_get, slice_get_within, slice_get-get_or}
use Rattle.std.specs.Option.{option_map}
use Rattle.std.specs.Prelude.{unwrap_or, if◌then◌else◌}
use Rattle.std.proofs.Math.Seq.{get_or-append_seam}
use Rattle.blz_value.specs.declared.attrs.Attrs.{Attrs}
use Rattle.std.proofs.lemmas.Bool.{eqb-true}
use Rattle.blz_value.specs.Arrows.{is_key}
use Rattle.std.specs.List.{position_from}

pub Has-slice_get : {X : Type 0} (xs : List X) (k : ℕ) (x : X) → slice_get xs k ≡ Some x → Has x xs
Has-slice_get xs k x at = subst (λ q. Has q xs) (get_or_from_slice_get xs k x x at) (Has-get_or xs k x (slice_get_within xs k x at))

pub same_some : {X : Type 0} (x y : X) → Some x ≡ Some y → x ≡ y
same_some x y e = cc

pub unwrap_or-suc : (o : Option ℕ) (d : ℕ) → unwrap_or (option_map suc o) (suc d) ≡ suc (unwrap_or o d)
unwrap_or-suc None d = refl
unwrap_or-suc (Some i) d = refl

pub slice_get-last : {X : Type 0} (xs : List X) (x : X) → slice_get (xs ++ x ∷ []) (length xs) ≡ Some x
slice_get-last xs x = slice_get-get_or (xs ++ x ∷ []) (length xs) x (simp length-append (omega arith)) ∙ ap Some (get_or-append_seam xs x [] x)

pub is_key-is : (key : ℕ) (o : Option Attrs) → is_key key o ≡ true → (own : Attrs) × (o ≡ Some own) × (own.bits ≡ key)
is_key-is key None e = cc
is_key-is key (Some own) e = (own, refl, eqb-true own.bits key e)

-- a place that passes, where none before it does, is the first
pub first_place : {X : Type 0} (p : X → Bool) (xs : List X) (from k : ℕ) (d : X) → k < length xs → p (get_or xs k d) ≡ true → ((j : ℕ) → j < k → p (get_or xs j d) ≡ false) → position_from p from xs ≡ Some (from + k)
first_place p [] from k d within passes none = absurd (omega (arith, within))
first_place p (x ∷ xs) from zero d within passes none = ap (λ b. cond b (Some from) (position_from p (from + 1) xs)) passes ∙ ap (λ n. Some n) (let e : from ≡ from + 0 = omega arith in e)
first_place p (x ∷ xs) from (suc k) d within passes none =
    ap (λ b. cond b (Some from) (position_from p (from + 1) xs)) (none 0 (omega arith))
    ∙ first_place p xs (from + 1) k d (omega (arith, within)) passes (λ j less. none (suc j) (omega (arith, less)))
    ∙ ap (λ n. Some n) (let e : from + 1 + k ≡ from + suc k = omega arith in e)

pub place_within : {X : Type 0} (test : X → Bool) (at : ℕ) (xs : List X) (k : ℕ) → position_from test at xs ≡ Some k → k < at + length xs
place_within test at [] k is = absurd (cc)
place_within {X} test at (x ∷ xs) k is = from (test x) (place_within test (at + 1) xs k) is
  where
    from : (b : Bool) → (position_from test (at + 1) xs ≡ Some k → k < at + 1 + length xs) → (if b then Some at else position_from test (at + 1) xs) ≡ Some k → k < at + length (x ∷ xs)
    from true later is = let same : at ≡ k = cc in omega (arith, same)
    from false later is = let within = later is in omega (arith, within)
