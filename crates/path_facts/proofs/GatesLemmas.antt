-- What is in all of some sets.
use Rattle.std.proofs.Common.{◌≡◌, ◌≤◌, ◌+◌, ◌<◌, ℕ, Bool, true, false, cond, if◌then◌else◌, List, [], ◌∷◌, ◌++◌, length, map, filter, drop, get_or, bit_and, refl, ap, ◌∙◌, sym}
use Rattle.std.specs.List.{flat_map}
use Rattle.std.specs.Int.Bits.{and_self}
use Rattle.std.proofs.lemmas.List.{drop_all, drop_more}
use Rattle.std.proofs.lemmas.Nat.{and_assoc, and_comm}
use Rattle.bloom_forms.specs.Gates.{in_all}

-- it lies among all
pub in_all-within : (all : ℕ) (sets : List ℕ) → bit_and (in_all all sets) all ≡ in_all all sets
in_all-within all [] = and_self all
in_all-within all (set ∷ sets) = and_assoc all set (in_all all sets) ∙ ap (bit_and set) (in_all-within all sets)

pub in_all-start : (all : ℕ) (sets : List ℕ) → bit_and all (in_all all sets) ≡ in_all all sets
in_all-start all sets = and_comm all (in_all all sets) ∙ in_all-within all sets

pub in_all-append : (all : ℕ) (xs ys : List ℕ) → in_all all (xs ++ ys) ≡ bit_and (in_all all xs) (in_all all ys)
in_all-append all [] ys = sym (in_all-start all ys)
in_all-append all (x ∷ xs) ys = ap (bit_and x) (in_all-append all xs ys) ∙ sym (and_assoc (in_all all ys) x (in_all all xs))

-- the sets of those elements that pass a test, others counting for nothing
pub in_all-filter : {X : Type 0} (all : ℕ) (passes : X → Bool) (set_of : X → ℕ) (xs : List X) → in_all all (map (λ x. if passes x then set_of x else all) xs) ≡ in_all all (map set_of (filter passes xs))
in_all-filter all passes set_of [] = refl
in_all-filter {X = X} all passes set_of (x ∷ xs) = ap (bit_and (if passes x then set_of x else all)) (in_all-filter all passes set_of xs) ∙ by (passes x)
  where
    rest : List X
    rest = filter passes xs

    by : (b : Bool) → bit_and (if b then set_of x else all) (in_all all (map set_of rest)) ≡ in_all all (map set_of (cond b (x ∷ rest) rest))
    by true = refl
    by false = in_all-start all (map set_of rest)

-- what is in all sets of each element
pub in_all-flat_map : {X : Type 0} (all : ℕ) (sets_of : X → List ℕ) (xs : List X) → in_all all (map (λ x. in_all all (sets_of x)) xs) ≡ in_all all (flat_map sets_of xs)
in_all-flat_map all sets_of [] = refl
in_all-flat_map all sets_of (x ∷ xs) = ap (bit_and (in_all all (sets_of x))) (in_all-flat_map all sets_of xs) ∙ sym (in_all-append all (sets_of x) (flat_map sets_of xs))

-- what is in all sets so far lies among all, and with what is in all others it is the whole
pub record IsCommon (all common rest whole : ℕ) : Type 0 where
  pub among : bit_and common all ≡ common
  pub is : bit_and common rest ≡ whole

pub common_start : (all : ℕ) (sets : List ℕ) → IsCommon all all (in_all all sets) (in_all all sets)
common_start all sets = record { among = and_self all; is = in_all-start all sets }

-- one more set is taken
pub common_step : {X : Type 0} (all : ℕ) (set_of : X → ℕ) (xs : List X) (i : ℕ) (x : X) (common new whole : ℕ) → i < length xs
    → new ≡ bit_and common (set_of (get_or xs i x)) → IsCommon all common (in_all all (map set_of (drop i xs))) whole
    → IsCommon all new (in_all all (map set_of (drop (i + 1) xs))) whole
common_step {X = X} all set_of xs i x common new whole below is old =
    let set = set_of (get_or xs i x) in
    let rest = in_all all (map set_of (drop (i + 1) xs)) in
    let left : in_all all (map set_of (drop i xs)) ≡ bit_and set rest = ap (λ (l : List X). in_all all (map set_of l)) (drop_more xs i x below) in
    record {
      among = ap (λ n. bit_and n all) is ∙ and_assoc all common set ∙ ap (bit_and common) (and_comm set all) ∙ sym (and_assoc set common all) ∙ ap (λ n. bit_and n set) old.among ∙ sym is;
      is = ap (λ n. bit_and n rest) is ∙ and_assoc rest common set ∙ ap (bit_and common) (sym left) ∙ old.is;
    }

-- all sets are taken
pub common_end : {X : Type 0} (all : ℕ) (set_of : X → ℕ) (xs : List X) (i : ℕ) (common whole : ℕ) → length xs ≤ i → IsCommon all common (in_all all (map set_of (drop i xs))) whole → common ≡ whole
common_end {X = X} all set_of xs i common whole past old = sym old.among ∙ ap (λ (l : List X). bit_and common (in_all all (map set_of l))) (sym (drop_all i xs past)) ∙ old.is
