-- Rows that are copies of others in the columns with roots.
use Rattle.std.proofs.Common.{◌≡◌, ◌<◌, ◌+◌, ℕ, zero, suc, Bool, true, false, cond, List, [], ◌∷◌, ◌++◌, length, length-append, map, pos, Option, None, Some, refl, ◌∙◌, inl, inr, arith}
use Rattle.std.specs.List.{enumerate_from}
use Rattle.std.proofs.lemmas.Bool.{cases_lt}
use Rattle.std.proofs.lemmas.List.{length-map, get_or_past, get_or_append_left}
use Rattle.blz_value.specs.declared.value.Value.TheVariants.{Int}
use Rattle.blz_value.specs.Operators.{Pairs, cells, unpaired}
use Rattle.blz_value.specs.Record.{Row}
use Rattle.blz_value.specs.Test.{cell}
use Rattle.bloom_forms.specs.Roots.{Roots, root_at, is_equated, joined_roots, roots_at}

-- each column of a row with a root is a copy of a column of the source with this root
abbrev pub AreCopies : Roots → Row → Roots → Row → Type 0
AreCopies from source roots row = (number attribute : ℕ) → root_at roots number ≡ Some attribute → (place : ℕ) × (root_at from place ≡ Some attribute) × (cell row number ≡ cell source place)

-- each column with a root is there
abbrev pub IsFull : Roots → Row → Type 0
IsFull roots row = (number attribute : ℕ) → root_at roots number ≡ Some attribute → number < length row

-- each root of the second is one of the first, of the same column
abbrev pub KeepsRoots : Roots → Roots → Type 0
KeepsRoots roots fewer = (number attribute : ℕ) → root_at fewer number ≡ Some attribute → root_at roots number ≡ Some attribute

pub copies-self : (roots : Roots) (row : Row) → AreCopies roots row roots row
copies-self roots row number attribute is = (number, is, refl)

pub copies-trans : (first : Roots) (one : Row) (second : Roots) (two : Row) (third : Roots) (three : Row) → AreCopies first one second two → AreCopies second two third three → AreCopies first one third three
copies-trans first one second two third three early late number attribute is =
    let last = late number attribute is in
    let before = early last.0 attribute last.1 in
    (before.0, before.1, last.2 ∙ before.2)

-- fewer roots
pub copies-fewer : (roots fewer : Roots) (row : Row) → KeepsRoots roots fewer → AreCopies roots row fewer row
copies-fewer roots fewer row keeps number attribute is = (number, keeps number attribute is, refl)

pub full-fewer : (roots fewer : Roots) (row : Row) → IsFull roots row → KeepsRoots roots fewer → IsFull fewer row
full-fewer roots fewer row full keeps number attribute is = full number attribute (keeps number attribute is)

-- fewer roots, and more values behind
pub copies-more : (roots fewer : Roots) (row more : Row) → IsFull roots row → KeepsRoots roots fewer → AreCopies roots row fewer (row ++ more)
copies-more roots fewer row more full keeps number attribute is =
    let own = keeps number attribute is in
    (number, own, get_or_append_left row more (Int (pos 0)) number (full number attribute own))

pub full-more : (roots fewer : Roots) (row more : Row) → IsFull roots row → KeepsRoots roots fewer → IsFull fewer (row ++ more)
full-more roots fewer row more full keeps number attribute is = omega (arith, full number attribute (keeps number attribute is), length-append row more)

-- a root stands among the roots
pub root-within : (roots : Roots) (number attribute : ℕ) → root_at roots number ≡ Some attribute → number < length roots
root-within roots number attribute is = elim (cases_lt number (length roots)) [
  | inl lt ↦ lt
  | inr le ↦ let none : root_at roots number ≡ None = get_or_past roots number None le in cc
]

-- ---- columns by their numbers

pub copies-cells : (from : Roots) (source : Row) (numbers : List ℕ) → AreCopies from source (roots_at from numbers) (cells numbers source)
copies-cells from source [] number attribute is = cc
copies-cells from source (n ∷ numbers) zero attribute is = (n, is, refl)
copies-cells from source (n ∷ numbers) (suc number) attribute is = copies-cells from source numbers number attribute is

pub full-cells : (from : Roots) (source : Row) (numbers : List ℕ) → IsFull (roots_at from numbers) (cells numbers source)
full-cells from source numbers number attribute is = omega (arith, root-within (roots_at from numbers) number attribute is, length-map numbers (root_at from), length-map numbers (cell source))

-- ---- columns without roots

-- no column has a root
abbrev pub AreRootless : Roots → Type 0
AreRootless roots = (number attribute : ℕ) → root_at roots number ≡ Some attribute → ⊥

pub rootless-none : {X : Type 0} (xs : List X) → AreRootless (map (λ (x : X). None) xs)
rootless-none [] number attribute is = cc
rootless-none (x ∷ xs) zero attribute is = cc
rootless-none (x ∷ xs) (suc number) attribute is = rootless-none xs number attribute is

pub keeps-append : (roots fewer others : Roots) → KeepsRoots roots fewer → AreRootless others → KeepsRoots roots (fewer ++ others)
keeps-append roots [] others keeps none number attribute is = absurd (none number attribute is)
keeps-append roots (root ∷ fewer) others keeps none zero attribute is = keeps zero attribute is
keeps-append [] (root ∷ fewer) others keeps none (suc number) attribute is = keeps-append [] fewer others (λ n a e. keeps (suc n) a e) none number attribute is
keeps-append (first ∷ roots) (root ∷ fewer) others keeps none (suc number) attribute is = keeps-append roots fewer others (λ n a e. keeps (suc n) a e) none number attribute is

-- ---- a join

pub chosen : (b : Bool) (root : Option ℕ) (attribute : ℕ) → cond b root None ≡ Some attribute → (b ≡ true) × (root ≡ Some attribute)
chosen true root attribute is = (refl, is)
chosen false root attribute is = cc

keeps-equated : (pairs : Pairs) (right : Roots) (from : ℕ) (left : Roots) → KeepsRoots left (map (λ (place : ℕ × Option ℕ). cond (is_equated pairs right place.0 place.1) place.1 None) (enumerate_from from left))
keeps-equated pairs right from [] number attribute is = cc
keeps-equated pairs right from (root ∷ left) zero attribute is = (chosen (is_equated pairs right from root) root attribute is).1
keeps-equated pairs right from (root ∷ left) (suc number) attribute is = keeps-equated pairs right (from + 1) left number attribute is

pub keeps-joined : (pairs : Pairs) (left right : Roots) → KeepsRoots left (joined_roots pairs left right)
keeps-joined pairs left right = keeps-append left (map (λ (place : ℕ × Option ℕ). cond (is_equated pairs right place.0 place.1) place.1 None) (enumerate_from 0 left)) (map (λ (root : Option ℕ). None) (unpaired pairs right)) (keeps-equated pairs right 0 left) (rootless-none (unpaired pairs right))
