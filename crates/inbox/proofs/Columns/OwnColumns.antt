-- Where a column of an output is its own root, the first column of its attribute is.
use Rattle.std.proofs.Common.{◌≡◌, ◌≤◌, ℕ, zero, suc, false, None, Some, List, [], ◌∷◌, ◌++◌, length, get_or, refl, ◌∙◌, sym, subst, inl, inr, arith}
use Rattle.std.specs.List.{remove}
use Rattle.std.proofs.lemmas.Bool.{cases_lt}
use Rattle.std.proofs.lemmas.List.{get_or_past, map-append}
use Rattle.blz_value.proofs.Membership.{Has-get_or, Has-from_map, Has-from_filter}
use Rattle.blz_value.specs.Names.{place_of}
use Rattle.bloom_forms.specs.declared.module.Kind.TheVariants.{Output}
use Rattle.bloom_forms.specs.declared.module.Collection.{Collection}
use Rattle.bloom_forms.specs.declared.program.Program.{Program}
use Rattle.bloom_forms.specs.declared.program.Program.TheVariants.{Module, Split, Latest, Number}
use Rattle.bloom_forms.specs.Checks.{IsChecked}
use Rattle.bloom_forms.specs.Fits.{repeats}
use Rattle.bloom_forms.specs.Form.{Accepted}
use Rattle.bloom_forms.specs.Kinds.{same_kind, of_kind}
use Rattle.bloom_forms.specs.Program.{port_columns, output_columns, columns_of_kind}
use Rattle.bloom_forms.specs.Query.{Name}
use Rattle.bloom_forms.specs.Annotation.{roots_of_output}
use Rattle.bloom_forms.specs.HeadRoots.{attribute_roots}
use Rattle.bloom_forms.specs.Roots.{Roots, root_at}
use Rattle.topo_forms.specs.Data.{place_of_attribute}
use Rattle.inbox.proofs.Columns.Attributes.{first_place, one_place}
use Rattle.bloom_forms.specs.Proper.{IsProper, HasDistinctColumns}
use Rattle.bloom_forms.proofs.Reach.ProperLemmas.{HasOwnColumns}

-- the columns of each port are distinct, also where there is none
pub port_distinct : (program : Program) → HasOwnColumns program → (p : ℕ) → repeats (get_or (port_columns program) p []) ≡ false
port_distinct program own p = elim (cases_lt p (length (port_columns program))) [
  | inl lt ↦ own (get_or (port_columns program) p []) (Has-get_or (port_columns program) p [] lt)
  | inr past ↦ rw (get_or_past (port_columns program) p [] past) refl
]

module_distinct : (a : Accepted) → IsChecked a.form a.heads → (o : ℕ) → repeats (get_or (columns_of_kind Output a.form.collections) o []) ≡ false
module_distinct a checked o =
    let all = columns_of_kind Output a.form.collections in
    elim (cases_lt o (length all)) [
      | inl lt ↦
          let m = Has-from_map (λ (c : Collection). c.columns) (get_or all o []) (of_kind Output a.form.collections) (Has-get_or all o [] lt) in
          let stands = (Has-from_filter (λ (c : Collection). same_kind Output c.kind) m.0 a.form.collections m.1).0 in
          subst (λ (columns : List Name). repeats columns ≡ false) m.2 (checked.collections m.0 stands).distinct
      | inr past ↦ rw (get_or_past all o [] past) refl
    ]

-- where columns without roots follow
prefix_root : (front back rest : Roots) (n p a : ℕ) → ((k : ℕ) → root_at rest k ≡ None) → root_at (front ++ rest) n ≡ Some a → p ≤ n → root_at (front ++ back) p ≡ Some a → root_at (front ++ rest) p ≡ Some a
prefix_root [] back rest n p a none is le at = let bad : None ≡ Some a = sym (none n) ∙ is in cc
prefix_root (x ∷ front) back rest n zero a none is le at = at
prefix_root (x ∷ front) back rest zero (suc p) a none is le at = absurd (omega (arith, le))
prefix_root (x ∷ front) back rest (suc n) (suc p) a none is le at = prefix_root front back rest n p a none is (omega (arith, le)) at

two_none : (k : ℕ) → root_at (None ∷ None ∷ []) k ≡ None
two_none zero = refl
two_none (suc zero) = refl
two_none (suc (suc k)) = refl

one_none : (k : ℕ) → root_at (None ∷ []) k ≡ None
one_none zero = refl
one_none (suc k) = refl

module _ (names : List Name) where
  -- of distinct columns the first is the only one
  by_distinct : (columns : List Name) (roots : Roots) (n a : ℕ) → repeats columns ≡ false → root_at (attribute_roots names columns) n ≡ Some a → root_at roots n ≡ Some a
      → root_at roots (place_of_attribute (attribute_roots names columns) a) ≡ Some a
  by_distinct columns roots n a distinct is root =
      let first = first_place (attribute_roots names columns) a n is in
      subst (λ (k : ℕ). root_at roots k ≡ Some a) (one_place names columns distinct n (place_of_attribute (attribute_roots names columns) a) a is first.1) root

  by_prefix : (columns more : List Name) (rest : Roots) (n a : ℕ) → ((k : ℕ) → root_at rest k ≡ None) → root_at (attribute_roots names (columns ++ more)) n ≡ Some a → root_at (attribute_roots names columns ++ rest) n ≡ Some a
      → root_at (attribute_roots names columns ++ rest) (place_of_attribute (attribute_roots names (columns ++ more)) a) ≡ Some a
  by_prefix columns more rest n a none is root =
      let all = attribute_roots names (columns ++ more) in
      let first = first_place all a n is in
      let parts : all ≡ attribute_roots names columns ++ attribute_roots names more = map-append (place_of names) columns more in
      prefix_root (attribute_roots names columns) (attribute_roots names more) rest n (place_of_attribute all a) a none root first.0
      (subst (λ (z : Roots). root_at z (place_of_attribute all a) ≡ Some a) parts first.1)

  pub own_first : (program : Program) → IsProper program → HasDistinctColumns program → (o n a : ℕ)
      → root_at (attribute_roots names (get_or (output_columns program) o [])) n ≡ Some a → root_at (roots_of_output names program o) n ≡ Some a
      → root_at (roots_of_output names program o) (place_of_attribute (attribute_roots names (get_or (output_columns program) o [])) a) ≡ Some a
  own_first (Module m) proper distinct o n a is root = by_distinct (get_or (columns_of_kind Output m.form.collections) o []) (roots_of_output names (Module m) o) n a (module_distinct m proper o) is root
  own_first (Split columns split) proper distinct zero n a is root = by_prefix (remove columns split) _ (None ∷ None ∷ []) n a two_none is root
  own_first (Split columns split) proper distinct (suc o) n a is root = cc
  own_first (Latest columns keys) proper distinct zero n a is root = by_distinct columns (roots_of_output names (Latest columns keys) 0) n a distinct is root
  own_first (Latest columns keys) proper distinct (suc o) n a is root = cc
  own_first (Number columns) proper distinct zero n a is root = by_prefix columns _ (None ∷ []) n a one_none is root
  own_first (Number columns) proper distinct (suc o) n a is root = cc
