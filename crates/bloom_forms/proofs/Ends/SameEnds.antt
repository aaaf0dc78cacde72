-- Collections by their numbers at the ends of two steps: where they hold the same, or less, so do the sets of a kind.
use Rattle.std.proofs.Common.{◌≡◌, ℕ, zero, suc, Bool, true, false, Some, List, [], ◌∷◌, ◌++◌, length, map, refl, ap, inl, inr, arith}
use Rattle.std.proofs.lemmas.Bool.{cases_Bool}
use Rattle.blz_value.specs.Members.{IsWithin}
use Rattle.blz_value.specs.Record.{Row}
use Rattle.blz_value.specs.Sets.{set_of, IsRowSet}
use Rattle.blz_value.proofs.Membership.{Has-append_left, Has-append_cases}
use Rattle.blz_value.proofs.RowSets.{is_set_of}
use Rattle.bloom_forms.specs.declared.module.Kind.{Kind}
use Rattle.bloom_forms.specs.declared.module.Kind.TheVariants.{Input, Output, Table, Scratch}
use Rattle.bloom_forms.specs.declared.module.Collection.{Collection}
use Rattle.bloom_forms.specs.Kinds.{same_kind, kind_at}
use Rattle.bloom_forms.specs.Step.{Sets, set_at, sets_of_kind}

-- sets that hold the same at each place
pub same_by_places : (xs ys : Sets) → length xs ≡ length ys → ((k : ℕ) → set_at xs k ≡ set_at ys k) → xs ≡ ys
same_by_places [] [] many each = refl
same_by_places [] (y ∷ ys) many each = absurd (omega (arith, many))
same_by_places (x ∷ xs) [] many each = absurd (omega (arith, many))
same_by_places (x ∷ xs) (y ∷ ys) many each = λ i. each 0 i ∷ same_by_places xs ys (omega (arith, many)) (λ k. each (suc k)) i

pub one_kind : (a b : Kind) → same_kind a b ≡ true → b ≡ a
one_kind Input Input e = refl
one_kind Input Output e = cc
one_kind Input Table e = cc
one_kind Input Scratch e = cc
one_kind Output Input e = cc
one_kind Output Output e = refl
one_kind Output Table e = cc
one_kind Output Scratch e = cc
one_kind Table Input e = cc
one_kind Table Output e = cc
one_kind Table Table e = refl
one_kind Table Scratch e = cc
one_kind Scratch Input e = cc
one_kind Scratch Output e = cc
one_kind Scratch Table e = cc
one_kind Scratch Scratch e = refl

-- where the sets of the collections of a kind hold the same, so do the lists of them
pub same_kinds : (kind : Kind) (cs : List Collection) (xs ys : Sets) → length xs ≡ length cs → length ys ≡ length cs → ((k : ℕ) → kind_at cs k ≡ Some kind → set_at xs k ≡ set_at ys k) → sets_of_kind kind cs xs ≡ sets_of_kind kind cs ys
same_kinds kind [] xs ys many also each = refl
same_kinds kind (c ∷ cs) [] ys many also each = absurd (omega (arith, many))
same_kinds kind (c ∷ cs) (x ∷ xs) [] many also each = absurd (omega (arith, also))
same_kinds kind (c ∷ cs) (x ∷ xs) (y ∷ ys) many also each =
    elim (cases_Bool (same_kind kind c.kind)) [
      | inl t ↦
          let first : x ≡ y = each 0 (ap Some (one_kind kind c.kind t)) in
          let more = same_kinds kind cs xs ys (omega (arith, many)) (omega (arith, also)) (λ k is. each (suc k) is) in
          rw t (λ i. first i ∷ more i)
      | inr f ↦ rw f (same_kinds kind cs xs ys (omega (arith, many)) (omega (arith, also)) (λ k is. each (suc k) is))
    ]

-- a fact on the sets of two steps for each collection of a kind, by its place among these
pub kinds_by : (R : List Row → List Row → Type 0) → R [] [] → (kind : Kind) (cs : List Collection) (xs ys : Sets) → length xs ≡ length cs → length ys ≡ length cs → ((k : ℕ) → kind_at cs k ≡ Some kind → R (set_at xs k) (set_at ys k)) → (place : ℕ) → R (set_at (sets_of_kind kind cs xs) place) (set_at (sets_of_kind kind cs ys) place)
kinds_by R none kind [] xs ys many also each place = none
kinds_by R none kind (c ∷ cs) [] ys many also each place = absurd (omega (arith, many))
kinds_by R none kind (c ∷ cs) (x ∷ xs) [] many also each place = absurd (omega (arith, also))
kinds_by R none kind (c ∷ cs) (x ∷ xs) (y ∷ ys) many also each place =
    go (same_kind kind c.kind) refl place (kinds_by R none kind cs xs ys (omega (arith, many)) (omega (arith, also)) (λ k is. each (suc k) is))
  where
    go : (b : Bool) → same_kind kind c.kind ≡ b → (place : ℕ) → ((place : ℕ) → R (set_at (sets_of_kind kind cs xs) place) (set_at (sets_of_kind kind cs ys) place)) → R (set_at (sets_of_kind kind (c ∷ cs) (x ∷ xs)) place) (set_at (sets_of_kind kind (c ∷ cs) (y ∷ ys)) place)
    go true t zero more = rw t (each 0 (ap Some (one_kind kind c.kind t)))
    go true t (suc place) more = rw t (more place)
    go false f place more = rw f (more place)

-- a set that holds all of some rows is the same with them
pub absorbs : (rows more : List Row) → IsRowSet rows → IsWithin more rows → rows ≡ set_of (rows ++ more)
absorbs rows more sorted inside = is_set_of rows (rows ++ more) sorted (
  λ row h. Has-append_left row rows more h,
  λ row h. elim (Has-append_cases row rows more h) [ inl old ↦ old | inr new ↦ inside row new ],
)

-- one empty set for each of some things
pub none_at : {X : Type 0} (xs : List X) (place : ℕ) → set_at (map (λ x. []) xs) place ≡ []
none_at [] place = refl
none_at (x ∷ xs) zero = refl
none_at (x ∷ xs) (suc place) = none_at xs place
