-- An attribute has a first place among columns, and one place among distinct columns; the value of a record in it is the value there.
use Rattle.std.proofs.Common.{◌≡◌, ◌≢◌, ◌<◌, ◌≤◌, ◌+◌, ℕ, zero, suc, Bool, true, false, cond, bit_or, Option, None, Some, IfSome, IsNone, List, [], ◌∷◌, length, map, get_or, slice_get, refl, ap, ◌∙◌, sym, subst, inl, inr, ◌⊎◌, arith, ◌^◌}
use Rattle.std.specs.Prelude.{unwrap_or}
use Rattle.std.specs.List.{AllPairs, position_from, zip}
use Rattle.std.specs.Str.{bytes_eq}
use Rattle.std.proofs.lemmas.Bool.{cases_Bool, cases_eq, cases_lt, eqb-true, eq-eqb, true≢false}
use Rattle.std.proofs.lemmas.List.{get_or-map, length-map}
use Rattle.std.proofs.lemmas.Option.{get_or_from_slice_get, slice_get_within}
use Rattle.std.proofs.lemmas.Slice.Eq.{bytes_eq-Decides}
use Rattle.blz_value.specs.Members.{Has}
use Rattle.blz_value.specs.Record.{Row}
use Rattle.blz_value.specs.Test.{cell}
use Rattle.blz_value.proofs.Membership.{Has-get_or, Has-map, Has-from_map, Has-from_any}
use Rattle.blz_value.specs.Bits.{bit_of}
use Rattle.blz_value.specs.Closure.{within}
use Rattle.blz_value.specs.Names.{place_of}
use Rattle.blz_value.proofs.Places.{place_of-get, place_of-none}
use Rattle.blz_value.proofs.Within.{within-trans, within-empty, within-or_r, or-within, within-le}
use Rattle.bloom_forms.specs.Fits.{repeats}
use Rattle.bloom_forms.specs.Query.{Name}
use Rattle.blz_value.specs.Arrows.{with_all}
use Rattle.bloom_forms.proofs.Reach.Unfolding.{bit_if-lt, with_all-lt}
use Rattle.bloom_forms.specs.Gates.{root_set, set_of_roots}
use Rattle.bloom_forms.specs.HeadRoots.{attribute_roots}
use Rattle.bloom_forms.specs.Roots.{Roots, root_at, are_same}
use Rattle.bloom_forms.proofs.Copies.Copying.{root-within}
use Rattle.topo_forms.proofs.Columns.OwnPorts.{distinct_places}
use Rattle.topo_forms.specs.Data.{place_of_attribute}
use Rattle.blz_value.specs.NumberSets.{set_of_numbers}
use Rattle.blz_value.proofs.Lists.{all_keeps}
use Rattle.topo_forms.specs.View.{Output, own_root}
use Rattle.inbox.specs.Agreement.{value_at}
use Rattle.bloom_forms.specs.Attributes.{has_attribute, value_in}

-- ---- lists

pub get_or-map_default : {X Y : Type 0} (f : X → Y) (xs : List X) (n : ℕ) (d : X) → get_or (map f xs) n (f d) ≡ f (get_or xs n d)
get_or-map_default f [] n d = refl
get_or-map_default f (x ∷ xs) zero d = refl
get_or-map_default f (x ∷ xs) (suc n) d = get_or-map_default f xs n d

-- ---- the first place of an attribute

same_some : (c : Option ℕ) (a : ℕ) → are_same c (Some a) ≡ true → c ≡ Some a
same_some None a e = cc
same_some (Some b) a e = ap Some (eqb-true b a e)

some_same : (c : Option ℕ) (a : ℕ) → c ≡ Some a → are_same c (Some a) ≡ true
some_same c a e = subst (λ (o : Option ℕ). are_same o (Some a) ≡ true) (sym e) (eq-eqb a a refl)

-- a column with the attribute is the first or comes after it
pub record FirstAt (from : ℕ) (columns : Roots) (a n : ℕ) : Type 0 where
  pub place : ℕ
  pub found : position_from (λ column. are_same column (Some a)) from columns ≡ Some (from + place)
  pub first : place ≤ n
  pub is : root_at columns place ≡ Some a

first_from : (a from : ℕ) (columns : Roots) (n : ℕ) → root_at columns n ≡ Some a → FirstAt from columns a n
first_from a from [] n e = cc
first_from a from (c ∷ cs) n e = elim (cases_Bool (are_same c (Some a))) [
  | inl t ↦ record {
    place = 0;
    found = rw t (ap Some (omega arith));
    first = omega arith;
    is = same_some c a t;
  }
  | inr f ↦ later (λ k is. first_from a (from + 1) cs k is) n e f
]
  where
    later : ((k : ℕ) → root_at cs k ≡ Some a → FirstAt (from + 1) cs a k) → (n : ℕ) → root_at (c ∷ cs) n ≡ Some a → are_same c (Some a) ≡ false → FirstAt from (c ∷ cs) a n
    later rest zero e f = absurd (true≢false (sym (some_same c a e) ∙ f))
    later rest (suc n) e f =
        let more = rest n e in
        record {
          place = suc more.place;
          found = rw f (more.found ∙ ap Some (omega arith));
          first = omega (arith, more.first);
          is = more.is;
        }

-- the first place of an attribute that some column has
pub first_place : (columns : Roots) (a n : ℕ) → root_at columns n ≡ Some a → (place_of_attribute columns a ≤ n) × (root_at columns (place_of_attribute columns a) ≡ Some a)
first_place columns a n e =
    let f = first_from a 0 columns n e in
    let place : place_of_attribute columns a ≡ f.place = ap (λ (o : Option ℕ). unwrap_or o (length columns)) f.found ∙ (let z : 0 + f.place ≡ f.place = omega arith in z) in
    (subst (λ (k : ℕ). k ≤ n) (sym place) f.first, subst (λ (k : ℕ). root_at columns k ≡ Some a) (sym place) f.is)

-- ---- distinct columns

module _ (names : List Name) where
  root_place : (columns : List Name) (n a : ℕ) → root_at (attribute_roots names columns) n ≡ Some a → (n < length columns) × (place_of names (get_or columns n []) ≡ Some a)
  root_place columns n a is =
      let lt : n < length columns = omega (arith, root-within (attribute_roots names columns) n a is, length-map columns (place_of names)) in
      (lt, sym (get_or-map (place_of names) columns n [] None lt) ∙ is)

  named_at : (name : Name) (a : ℕ) → place_of names name ≡ Some a → (a < length names) × (get_or names a [] ≡ name)
  named_at name a e =
      let there : slice_get names a ≡ Some name = subst (λ (o : Option ℕ). IfSome o (λ p. slice_get names p ≡ Some name)) e (place_of-get names name) in
      (slice_get_within names a name there, get_or_from_slice_get names a name [] there)

  -- of distinct columns one has the attribute
  pub one_place : (columns : List Name) → repeats columns ≡ false → (n k a : ℕ) → root_at (attribute_roots names columns) n ≡ Some a → root_at (attribute_roots names columns) k ≡ Some a → n ≡ k
  one_place columns distinct n k a one other =
      let p = root_place columns n a one in
      let q = root_place columns k a other in
      distinct_places columns distinct n k p.0 q.0 (sym (named_at (get_or columns n []) a p.1).1 ∙ (named_at (get_or columns k []) a q.1).1)

  -- the value in an attribute is that of each column that has it
  pub value_of_place : (columns : List Name) → repeats columns ≡ false → (r : Row) (n a : ℕ) → root_at (attribute_roots names columns) n ≡ Some a → value_at (attribute_roots names columns) r a ≡ cell r n
  value_of_place columns distinct r n a is = ap (cell r) (one_place columns distinct (place_of_attribute (attribute_roots names columns) a) n a (first_place (attribute_roots names columns) a n is).1 is)

  -- ---- values by the names of attributes

  module _ (distinct : AllPairs (λ a b. a ≢ b) names) where
    one_name : (n k : ℕ) → n < length names → k < length names → get_or names n [] ≡ get_or names k [] → n ≡ k
    one_name n k low high e = elim (cases_eq n k) [
      | inl same ↦ same
      | inr other ↦ elim (cases_lt n k) [
        | inl lt ↦ absurd (distinct n k [] lt high e)
        | inr le ↦ absurd (distinct k n [] (omega (arith, le, other)) low (sym e))
      ]
    ]

    own_place : (a : ℕ) → a < length names → place_of names (get_or names a []) ≡ Some a
    own_place a lt = go (place_of names (get_or names a [])) refl
      where
        go : (o : Option ℕ) → place_of names (get_or names a []) ≡ o → place_of names (get_or names a []) ≡ Some a
        go None e = absurd (place_of-none names (get_or names a []) (subst (λ (o : Option ℕ). IsNone o) (sym e) refl) (Has-get_or names a [] lt))
        go (Some p) e = let at = named_at (get_or names a []) p e in e ∙ ap Some (one_name p a at.0 lt at.1)

    same_test : (a : ℕ) → a < length names → (name : Name) → are_same (place_of names name) (Some a) ≡ bytes_eq name (get_or names a [])
    same_test a lt name = elim (cases_Bool (are_same (place_of names name) (Some a))) [
      | inl t ↦ t ∙ sym ((bytes_eq-Decides name (get_or names a [])).1 (sym (named_at name a (same_some (place_of names name) a t)).1))
      | inr f ↦ elim (cases_Bool (bytes_eq name (get_or names a []))) [
        | inl t ↦
            let is : name ≡ get_or names a [] = (bytes_eq-Decides name (get_or names a [])).0 t in
            absurd (true≢false (sym (some_same (place_of names name) a (ap (place_of names) is ∙ own_place a lt)) ∙ f))
        | inr g ↦ f ∙ sym g
      ]
    ]

    same_position : (a : ℕ) → a < length names → (from : ℕ) (columns : List Name) → position_from (λ column. are_same column (Some a)) from (attribute_roots names columns) ≡ position_from (λ held. bytes_eq held (get_or names a [])) from columns
    same_position a lt from [] = refl
    same_position a lt from (c ∷ cs) =
        ap (λ (b : Bool). cond b (Some from) (position_from (λ column. are_same column (Some a)) (from + 1) (attribute_roots names cs))) (same_test a lt c)
        ∙ ap (λ (o : Option ℕ). cond (bytes_eq c (get_or names a [])) (Some from) o) (same_position a lt (from + 1) cs)

    -- the value in an attribute is that of the column of its name
    pub value_in_is : (columns : List Name) (r : Row) (a : ℕ) → a < length names → value_in names columns r a ≡ value_at (attribute_roots names columns) r a
    value_in_is columns r a lt =
        ap (cell r) (sym (ap (λ (o : Option ℕ). unwrap_or o (length (attribute_roots names columns))) (same_position a lt 0 columns) ∙ ap (unwrap_or (place_of columns (get_or names a []))) (length-map columns (place_of names))))

  -- an attribute that some columns have is one of the names
  pub attribute_within : (columns : List Name) (a : ℕ) → has_attribute names columns a ≡ true → a < length names
  attribute_within columns a h =
      let found = Has-from_any (are_same (Some a)) (attribute_roots names columns) h in
      let m = Has-from_map (place_of names) found.0 columns found.1 in
      (named_at m.0 a (m.2 ∙ sym (flip found.0 found.2))).0
    where
      flip : (o : Option ℕ) → are_same (Some a) o ≡ true → Some a ≡ o
      flip None e = cc
      flip (Some b) e = ap Some (eqb-true a b e)

-- ---- sets of attributes

has_within : (s : ℕ) (sets : List ℕ) (set : ℕ) → Has set sets → within set (with_all s sets) ≡ true
has_within s [] set h = absurd h
has_within s (first ∷ sets) set (inl e) =
    subst (λ (z : ℕ). within z (with_all (bit_or s first) sets) ≡ true) e (within-trans first (bit_or s first) (with_all (bit_or s first) sets) (within-or_r s first) (all_keeps (bit_or s first) sets))
has_within s (first ∷ sets) set (inr h) = has_within (bit_or s first) sets set h

-- an attribute of some columns, as a set
pub root_within : (columns : Roots) (a : ℕ) → Has (Some a) columns → within (bit_of a) (set_of_roots columns) ≡ true
root_within columns a h = has_within 0 (map root_set columns) (bit_of a) (Has-map root_set (Some a) columns h)

all_within : (s t : ℕ) (roots : Roots) → within s t ≡ true → ((a : ℕ) → Has (Some a) roots → within (bit_of a) t ≡ true) → within (with_all s (map root_set roots)) t ≡ true
all_within s t [] inside each = inside
all_within s t (None ∷ roots) inside each = all_within (bit_or s 0) t roots (or-within s 0 t inside (within-empty t)) (λ a h. each a (inr h))
all_within s t (Some b ∷ roots) inside each = all_within (bit_or s (bit_of b)) t roots (or-within s (bit_of b) t inside (each b (inl refl))) (λ a h. each a (inr h))

-- columns lie in a set that has each attribute of them
pub roots_within : (roots : Roots) (t : ℕ) → ((a : ℕ) → Has (Some a) roots → within (bit_of a) t ≡ true) → within (set_of_roots roots) t ≡ true
roots_within roots t each = all_within 0 t roots (within-empty t) each

-- columns by the numbers of their attributes
pub numbers_are_roots : (ns : List ℕ) → set_of_numbers ns ≡ set_of_roots (map Some ns)
numbers_are_roots ns = ap (with_all 0) (go ns)
  where
    go : (ns : List ℕ) → map bit_of ns ≡ map root_set (map Some ns)
    go [] = refl
    go (n ∷ ns) = ap (λ (l : List ℕ). bit_of n ∷ l) (go ns)

root_set-lt : (root : Option ℕ) → root_set root < 2 ^ 64
root_set-lt None = omega arith
root_set-lt (Some a) = bit_if-lt true a

-- what lies in a set of roots is small
pub within-small : (a : ℕ) (roots : Roots) → within a (set_of_roots roots) ≡ true → a < 2 ^ 64
within-small a roots inside = let le = within-le a (set_of_roots roots) inside in let lt = with_all-lt root_set root_set-lt 0 roots (omega arith) in omega (arith, le, lt)

-- ---- columns that are their own roots

pub in_zip : {X Y : Type 0} (xs : List X) (ys : List Y) (pair : X × Y) (dx : X) (dy : Y) → Has pair (zip xs ys) → (n : ℕ) × (get_or xs n dx ≡ pair.0) × (get_or ys n dy ≡ pair.1)
in_zip [] [] pair dx dy h = absurd h
in_zip [] (y ∷ ys) pair dx dy h = absurd h
in_zip (x ∷ xs) [] pair dx dy h = absurd h
in_zip (x ∷ xs) (y ∷ ys) pair dx dy (inl e) = (0, ap (λ (p : _ × _). p.0) e, ap (λ (p : _ × _). p.1) e)
in_zip (x ∷ xs) (y ∷ ys) pair dx dy (inr h) = let m = in_zip xs ys pair dx dy h in (suc m.0, m.1, m.2)

own_is : (c r : Option ℕ) (a : ℕ) → own_root (c, r) ≡ Some a → (c ≡ Some a) × (r ≡ Some a)
own_is None r a e = cc
own_is (Some c) None a e = cc
own_is (Some c) (Some r) a e = go (cases_Bool (are_same (Some c) (Some r)))
  where
    go : (are_same (Some c) (Some r) ≡ true) ⊎ (are_same (Some c) (Some r) ≡ false) → (Some c ≡ Some a) × (Some r ≡ Some a)
    go (inl t) = let is : Some c ≡ Some a = rw t at e in let same : c ≡ r = eqb-true c r t in (is, ap Some (sym same) ∙ is)
    go (inr f) = let bad : None ≡ Some a = rw f at e in cc

-- an output has a column that is its own root for each of these attributes
pub own_column : (output : Output) (a : ℕ) → Has (Some a) (map own_root (zip output.columns output.roots)) → (n : ℕ) × (root_at output.columns n ≡ Some a) × (root_at output.roots n ≡ Some a)
own_column output a h =
    let m = Has-from_map own_root (Some a) (zip output.columns output.roots) h in
    let is = own_is m.0.0 m.0.1 a m.2 in
    let z = in_zip output.columns output.roots m.0 None None m.1 in
    (z.0, z.1 ∙ is.0, z.2 ∙ is.1)
