-- Collections of a kind: the set of their numbers, and the list of them.
use Rattle.std.proofs.Common.{◌≡◌, ◌≤◌, ◌<◌, ◌+◌, ◌^◌, inl, inr, ℕ, zero, suc, Bool, true, false, Option, None, Some, List, [], ◌∷◌, slice_get, length, refl, arith, ap, sym, subst, ◌∙◌}
use Rattle.std.specs.Option.{option_map, option_map_or}
use Rattle.std.specs.List.{enumerate_from}
use Rattle.std.proofs.lemmas.Bool.{true≢false}
use Rattle.blz_value.specs.Members.{Has}
use Rattle.blz_value.proofs.Membership.{Has-map, Has-from_map, Has-filter, Has-from_filter}
use Rattle.blz_value.specs.Bits.{bit_of, meets}
use Rattle.bloom_forms.specs.declared.module.Kind.{Kind}
use Rattle.bloom_forms.specs.declared.module.Kind.TheVariants.{Input, Output, Table, Scratch}
use Rattle.bloom_forms.specs.declared.module.Collection.{Collection}
use Rattle.bloom_forms.specs.Kinds.{same_kind, kind_at, has_kind}
use Rattle.bloom_forms.specs.Lookup.{collection_number, kind_of}
use Rattle.bloom_forms.specs.Query.{Name}
use Rattle.bloom_forms.specs.Reads.{kind_set}
use Rattle.bloom_forms.specs.KindNumbers.{numbers_of_kind}
use Rattle.bloom_forms.proofs.Collections.Numbers.{kind-number, get-within}
use Rattle.bloom_forms.proofs.Collections.Chosen.{from_chosen, in_chosen, chosen-lt}

-- an element beside its place
from_enumerated : {X : Type 0} (at : ℕ) (xs : List X) (place : ℕ × X) → Has place (enumerate_from at xs)
    → (j : ℕ) × (at + j ≡ place.0) × (slice_get xs j ≡ Some place.1)
from_enumerated at [] place n = absurd n
from_enumerated {X} at (x ∷ xs) place (inl e) = let first : at ≡ place.0 = ap (λ (p : ℕ × X). p.0) e in (0, omega arith, ap (λ (p : ℕ × X). Some p.1) e)
from_enumerated at (x ∷ xs) place (inr n) = let later = from_enumerated (at + 1) xs place n in (suc later.0, omega (arith, later.1), later.2)

in_enumerated : {X : Type 0} (at : ℕ) (xs : List X) (j : ℕ) (x : X) → slice_get xs j ≡ Some x → Has (at + j, x) (enumerate_from at xs)
in_enumerated at [] j x is = absurd (let bad : None ≡ Some x = is in cc)
in_enumerated at (y ∷ xs) zero x is = inl (let z : at ≡ at + 0 = omega arith in cc)
in_enumerated at (y ∷ xs) (suc j) x is = inr (let z : (at + 1) + j ≡ at + suc j = omega arith in subst (λ (k : ℕ). Has (k, x) (enumerate_from (at + 1) xs)) z (in_enumerated (at + 1) xs j x is))

-- a collection of a kind stands at its number
pub get-kind : (cs : List Collection) (n : ℕ) (kind : Kind) → kind_at cs n ≡ Some kind
    → (c : Collection) × (slice_get cs n ≡ Some c) × (c.kind ≡ kind)
get-kind cs n kind is = go (slice_get cs n) refl is
  where
    go : (o : Option Collection) → slice_get cs n ≡ o → option_map (λ (c : Collection). c.kind) o ≡ Some kind
        → (c : Collection) × (slice_get cs n ≡ Some c) × (c.kind ≡ kind)
    go None at e = absurd (let bad : None ≡ Some kind = e in cc)
    go (Some c) at e = (c, at, let same : Some c.kind ≡ Some kind = e in cc)

kind-get : (cs : List Collection) (n : ℕ) (c : Collection) → slice_get cs n ≡ Some c → kind_at cs n ≡ Some c.kind
kind-get cs n c at = ap (option_map (λ (d : Collection). d.kind)) at

pub kind-within : (cs : List Collection) (n : ℕ) (kind : Kind) → kind_at cs n ≡ Some kind → n < length cs
kind-within cs n kind is = let found = get-kind cs n kind is in get-within cs n found.0 found.1

-- numbers of collections are small
pub small_kind : (cs : List Collection) → length cs ≤ 32 → (n : ℕ) (kind : Kind) → kind_at cs n ≡ Some kind → n < 64
small_kind cs few n kind is = omega (arith, kind-within cs n kind is)

-- a name of a kind is that of a collection whose kind passes
pub kind-named : (test : Kind → Bool) (cs : List Collection) (name : Name) → has_kind test cs name ≡ true
    → (kind : Kind) × (kind_at cs (collection_number cs name) ≡ Some kind) × (test kind ≡ true)
kind-named test cs name h = go (kind_of cs name) refl h
  where
    go : (o : Option Kind) → kind_of cs name ≡ o → option_map_or test o false ≡ true
        → (kind : Kind) × (kind_at cs (collection_number cs name) ≡ Some kind) × (test kind ≡ true)
    go None e t = absurd (true≢false (sym t))
    go (Some kind) e t = (kind, kind-number cs name ∙ e, t)

pub named-kind : (test : Kind → Bool) (cs : List Collection) (name : Name) (kind : Kind)
    → kind_at cs (collection_number cs name) ≡ Some kind → test kind ≡ true → has_kind test cs name ≡ true
named-kind test cs name kind is t = ap (λ (o : Option Kind). option_map_or test o false) (sym (kind-number cs name) ∙ is) ∙ t

-- ---- the set of the collections whose kind passes a test

module _ (test : Kind → Bool) (cs : List Collection) where
  pub in_kind_set : (n : ℕ) (kind : Kind) → n < 64 → kind_at cs n ≡ Some kind → test kind ≡ true
      → meets (bit_of n) (kind_set test cs) ≡ true
  in_kind_set n kind lt is t =
      let found = get-kind cs n kind is in
      let z : 0 + n ≡ n = omega arith in
      let stands : Has (n, found.0) (enumerate_from 0 cs) = subst (λ (k : ℕ). Has (k, found.0) (enumerate_from 0 cs)) z (in_enumerated 0 cs n found.0 found.1) in
      in_chosen (λ place. test place.1.kind) (λ place. place.0) (enumerate_from 0 cs) (n, found.0) stands (ap test found.2 ∙ t) lt

  pub from_kind_set : (n : ℕ) → n < 64 → meets (bit_of n) (kind_set test cs) ≡ true
      → (kind : Kind) × (kind_at cs n ≡ Some kind) × (test kind ≡ true)
  from_kind_set n lt h =
      let c = from_chosen (λ place. test place.1.kind) (λ place. place.0) (enumerate_from 0 cs) n lt h in
      let at = from_enumerated 0 cs c.element c.stands in
      let z : at.0 ≡ n = omega (arith, at.1, c.is) in
      (c.element.1.kind, subst (λ (k : ℕ). kind_at cs k ≡ Some c.element.1.kind) z (kind-get cs at.0 c.element.1 at.2), c.passes)

  pub kind_set-lt : kind_set test cs < 2 ^ 64
  kind_set-lt = chosen-lt (λ place. test place.1.kind) (λ place. place.0) (enumerate_from 0 cs)

-- ---- tables

pub is_table : (kind : Kind) → same_kind Table kind ≡ true → kind ≡ Table
is_table Input e = cc
is_table Output e = cc
is_table Table e = refl
is_table Scratch e = cc

-- the list of the numbers of tables
pub in_tables : (cs : List Collection) (n : ℕ) → kind_at cs n ≡ Some Table → Has n (numbers_of_kind Table cs)
in_tables cs n is =
    let found = get-kind cs n Table is in
    let z : 0 + n ≡ n = omega arith in
    let stands : Has (n, found.0) (enumerate_from 0 cs) = subst (λ (k : ℕ). Has (k, found.0) (enumerate_from 0 cs)) z (in_enumerated 0 cs n found.0 found.1) in
    Has-map (λ place. place.0) (n, found.0) _ (Has-filter (λ place. same_kind Table place.1.kind) (n, found.0) (enumerate_from 0 cs) stands (ap (same_kind Table) found.2))

pub from_tables : (cs : List Collection) (n : ℕ) → Has n (numbers_of_kind Table cs) → kind_at cs n ≡ Some Table
from_tables cs n h =
    let place = Has-from_map (λ place. place.0) n _ h in
    let kept = Has-from_filter (λ place. same_kind Table place.1.kind) place.0 (enumerate_from 0 cs) place.1 in
    let at = from_enumerated 0 cs place.0 kept.0 in
    let z : at.0 ≡ n = omega (arith, at.1, place.2) in
    subst (λ (k : ℕ). kind_at cs k ≡ Some Table) z (kind-get cs at.0 place.0.1 at.2 ∙ ap Some (is_table place.0.1.kind kept.1))
