-- Attributes of columns: the value that a record has in one, and sets of roots.
use Rattle.std.proofs.Common.{◌≡◌, ◌<◌, ℕ, true, false, bit_or, Option, None, Some, IfSome, List, [], ◌∷◌, length, map, get_or, slice_get, refl, ap, ◌∙◌, sym, subst, inl, inr, ◌⊎◌, arith}
use Rattle.std.specs.Prelude.{unwrap_or}
use Rattle.std.proofs.lemmas.Bool.{eqb-true, eq-eqb, or_cases, true≢false}
use Rattle.std.proofs.lemmas.List.{get_or-map, length-map}
use Rattle.std.proofs.lemmas.Option.{get_or_from_slice_get}
use Rattle.blz_value.specs.Members.{Has}
use Rattle.blz_value.specs.Operators.{Pairs}
use Rattle.blz_value.specs.Record.{Row}
use Rattle.blz_value.specs.Test.{cell}
use Rattle.blz_value.proofs.Membership.{Has-get_or, Has-from_map, any_from_Has, Has-map, Has-from_any}
use Rattle.blz_value.specs.Bits.{bit_of, meets}
use Rattle.blz_value.specs.Names.{place_of}
use Rattle.blz_value.proofs.Members.{in-or, in-empty, in-within, within-meets, one_number, member_small}
use Rattle.blz_value.proofs.Places.{place_of-get}
use Rattle.blz_value.proofs.Within.{within-refl, within-or_l, within-or_r}
use Rattle.bloom_forms.specs.Columns.{column_number}
use Rattle.bloom_forms.specs.Fits.{repeats}
use Rattle.bloom_forms.specs.Query.{Name}
use Rattle.blz_value.specs.Arrows.{with_all}
use Rattle.bloom_forms.proofs.Reach.ProperLemmas.{own_position}
use Rattle.bloom_forms.specs.Gates.{root_set, set_of_roots, pair_root, pairs_set}
use Rattle.bloom_forms.specs.HeadRoots.{attribute_roots}
use Rattle.bloom_forms.specs.Roots.{Roots, root_at, are_same, roots_at}
use Rattle.bloom_forms.specs.Attributes.{has_attribute, value_in}
use Rattle.bloom_forms.proofs.Copies.Copying.{root-within, chosen}

module _ (names columns : List Name) where
  root_place : (place attribute : ℕ) → root_at (attribute_roots names columns) place ≡ Some attribute
      → (place < length columns) × (place_of names (get_or columns place []) ≡ Some attribute)
  root_place place attribute is =
      let lt : place < length columns = omega (arith, root-within (attribute_roots names columns) place attribute is, length-map columns (place_of names)) in
      (lt, sym (get_or-map (place_of names) columns place [] None lt) ∙ is)

  -- columns with such a root have the attribute
  pub has_root : (place attribute : ℕ) → root_at (attribute_roots names columns) place ≡ Some attribute
      → has_attribute names columns attribute ≡ true
  has_root place attribute is =
      let roots = attribute_roots names columns in
      let stands : Has (Some attribute) roots = subst (λ (r : Option ℕ). Has r roots) is (Has-get_or roots place None (root-within roots place attribute is)) in
      any_from_Has (are_same (Some attribute)) (Some attribute) roots stands (eq-eqb attribute attribute refl)

  -- the value in an attribute is that of the column whose root it is
  pub value_is : repeats columns ≡ false → (row : Row) (place attribute : ℕ)
      → root_at (attribute_roots names columns) place ≡ Some attribute
      → value_in names columns row attribute ≡ cell row place
  value_is distinct row place attribute is =
      let at = root_place place attribute is in
      let column = get_or columns place [] in
      let there : slice_get names attribute ≡ Some column = subst (λ (o : Option ℕ). IfSome o (λ p. slice_get names p ≡ Some column)) at.1 (place_of-get names column) in
      let named : get_or names attribute [] ≡ column = get_or_from_slice_get names attribute column [] there in
      let first : place_of columns column ≡ Some place = own_position 0 columns distinct place at.0 ∙ ap Some (omega arith) in
      let number : column_number columns (get_or names attribute []) ≡ place = ap (column_number columns) named ∙ ap (λ (o : Option ℕ). unwrap_or o (length columns)) first in
      ap (cell row) number

-- ---- sets of roots

in_with_all : (s : ℕ) (sets : List ℕ) (n : ℕ) → n < 64 → meets (bit_of n) (with_all s sets) ≡ true
    → (meets (bit_of n) s ≡ true) ⊎ ((set : ℕ) × Has set sets × (meets (bit_of n) set ≡ true))
in_with_all s [] n lt h = inl h
in_with_all s (more ∷ sets) n lt h = elim (in_with_all (bit_or s more) sets n lt h) [
  | inl t ↦ elim (or_cases _ _ (sym (in-or n s more lt) ∙ t)) [ inl old ↦ inl old | inr new ↦ inr (more, inl refl, new) ]
  | inr found ↦ inr (found.0, inr found.1, found.2)
]

in_root_set : (root : Option ℕ) (n : ℕ) → n < 64 → meets (bit_of n) (root_set root) ≡ true → root ≡ Some n
in_root_set None n lt h = absurd (true≢false (sym h ∙ in-empty n))
in_root_set (Some m) n lt h = ap Some (one_number n m lt h)

-- an attribute in the set of some roots is one of them
pub in_roots : (roots : Roots) (n : ℕ) → meets (bit_of n) (set_of_roots roots) ≡ true → Has (Some n) roots
in_roots roots n h =
    let lt = member_small n (set_of_roots roots) h in
    elim (in_with_all 0 (map root_set roots) n lt h) [
      | inl none ↦ absurd (true≢false (sym none ∙ in-empty n))
      | inr found ↦
          let m = Has-from_map root_set found.0 roots found.1 in
          subst (λ (r : Option ℕ). Has r roots) (in_root_set m.0 n lt (subst (λ (s : ℕ). meets (bit_of n) s ≡ true) (sym m.2) found.2)) m.1
    ]

-- a root is in the set of the roots
in_with_all_of : (s : ℕ) (sets : List ℕ) (n set : ℕ) → n < 64 → Has set sets → meets (bit_of n) set ≡ true
    → meets (bit_of n) (with_all s sets) ≡ true
in_with_all_of s [] n set lt stands h = absurd stands
in_with_all_of s (first ∷ sets) n set lt (inl e) h = kept (bit_or s first) sets (in-within n first (bit_or s first) lt (subst (λ (x : ℕ). meets (bit_of n) x ≡ true) (sym e) h) (within-or_r s first))
  where
    kept : (t : ℕ) (more : List ℕ) → meets (bit_of n) t ≡ true → meets (bit_of n) (with_all t more) ≡ true
    kept t [] g = g
    kept t (next ∷ more) g = kept (bit_or t next) more (in-within n t (bit_or t next) lt g (within-or_l t next))
in_with_all_of s (first ∷ sets) n set lt (inr later) h = in_with_all_of (bit_or s first) sets n set lt later h

pub in_set_of_roots : (roots : Roots) (n : ℕ) → n < 64 → Has (Some n) roots → meets (bit_of n) (set_of_roots roots) ≡ true
in_set_of_roots roots n lt stands = in_with_all_of 0 (map root_set roots) n (bit_of n) lt (Has-map root_set (Some n) roots stands) (within-meets n (bit_of n) lt (within-refl (bit_of n)))

-- some columns have an attribute where it is in the set of their roots
pub has_in_set : (names columns : List Name) (n : ℕ) → n < 64 → has_attribute names columns n ≡ true
    → meets (bit_of n) (set_of_roots (attribute_roots names columns)) ≡ true
has_in_set names columns n lt has =
    let found = Has-from_any (are_same (Some n)) (attribute_roots names columns) has in
    in_set_of_roots (attribute_roots names columns) n lt (subst (λ (r : Option ℕ). Has r (attribute_roots names columns)) (root_is found.0 n found.2) found.1)
  where
    root_is : (r : Option ℕ) (k : ℕ) → are_same (Some k) r ≡ true → r ≡ Some k
    root_is None k e = cc
    root_is (Some m) k e = ap Some (sym (eqb-true k m e))

pub in_set_has : (names columns : List Name) (n : ℕ)
    → meets (bit_of n) (set_of_roots (attribute_roots names columns)) ≡ true → has_attribute names columns n ≡ true
in_set_has names columns n h = any_from_Has (are_same (Some n)) (Some n) (attribute_roots names columns) (in_roots (attribute_roots names columns) n h) (eq-eqb n n refl)

pub same_roots : (a b : Option ℕ) (n : ℕ) → are_same a b ≡ true → a ≡ Some n → b ≡ Some n
same_roots None b n same is = cc
same_roots (Some a) None n same is = cc
same_roots (Some a) (Some b) n same is = let e : a ≡ b = eqb-true a b same in cc

-- an attribute of an operator's pairs is the root of both columns of one of them
pub in_pairs : (pairs : Pairs) (left right : Roots) (n : ℕ) → meets (bit_of n) (pairs_set pairs left right) ≡ true
    → (pair : ℕ × ℕ) × Has pair pairs × (root_at left pair.0 ≡ Some n) × (root_at right pair.1 ≡ Some n)
in_pairs pairs left right n h =
    let m = Has-from_map (pair_root left right) (Some n) pairs (in_roots (map (pair_root left right) pairs) n h) in
    let both = chosen (are_same (root_at left m.0.0) (root_at right m.0.1)) (root_at left m.0.0) n m.2 in
    (m.0, m.1, both.1, same_roots (root_at left m.0.0) (root_at right m.0.1) n both.0 both.1)

-- an attribute of an operator's keys is the root of one of them
pub in_keys : (roots : Roots) (numbers : List ℕ) (n : ℕ)
    → meets (bit_of n) (set_of_roots (roots_at roots numbers)) ≡ true
    → (number : ℕ) × Has number numbers × (root_at roots number ≡ Some n)
in_keys roots numbers n h = Has-from_map (root_at roots) (Some n) numbers (in_roots (roots_at roots numbers) n h)
