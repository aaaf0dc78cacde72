-- The names of attributes are distinct, and each column that is counted is one.
use Rattle.std.proofs.Common.{◌≡◌, ◌≢◌, inl, inr, ℕ, zero, suc, Bool, true, false, if◌then◌else◌, is_some, IsNone, IfSome, Option, None, Some, List, [], ◌∷◌, ◌++◌, length, map, slice_get, unwrap_or, refl, arith, sym, subst}
use Rattle.std.specs.List.{AllPairs}
use Rattle.std.proofs.lemmas.Bool.{true≢false}
use Rattle.std.proofs.lemmas.List.Quantifiers.{all_pairs_push}
use Rattle.blz_value.specs.Members.{Has}
use Rattle.blz_value.proofs.Membership.{Has-append_left, Has-append_right, Has-get_or}
use Rattle.blz_value.specs.Names.{added, place_of}
use Rattle.blz_value.proofs.Places.{place_of-none, place_of-get}
use Rattle.bloom_forms.specs.Query.{Name}
use Rattle.bloom_forms.specs.HeadRoots.{attribute_roots}
use Rattle.topo_forms.specs.Attributes.{with_columns, source_columns}
use Rattle.topo_forms.specs.declared.topology.SourceEntry.{SourceEntry}
use Rattle.topo_forms.specs.Sites.{Site, site_columns, attributes_in, attribute_number}

abbrev AreDistinct : List Name → Type 0
AreDistinct names = AllPairs (λ a b. a ≢ b) names

none_is : (o : Option ℕ) → is_some o ≡ false → IsNone o
none_is None e = refl
none_is (Some n) e = absurd (true≢false e)

added-distinct : (names : List Name) (name : Name) → AreDistinct names → AreDistinct (added names name)
added-distinct names name distinct = by (is_some (place_of names name)) refl
  where
    by : (b : Bool) → is_some (place_of names name) ≡ b → AreDistinct (if b then names else names ++ name ∷ [])
    by true e = distinct
    by false e = all_pairs_push (λ a b. a ≢ b) names name distinct (λ k d lt same. place_of-none names name (none_is (place_of names name) e) (subst (λ (x : Name). Has x names) same (Has-get_or names k d lt)))

with_columns-distinct : (names columns : List Name) → AreDistinct names → AreDistinct (with_columns names columns)
with_columns-distinct names [] distinct = distinct
with_columns-distinct names (c ∷ columns) distinct = with_columns-distinct (added names c) columns (added-distinct names c distinct)

pub attributes-distinct : (sources : List SourceEntry) (sites : List Site) → AreDistinct (attributes_in sources sites)
attributes-distinct sources sites = with_columns-distinct (with_columns [] (source_columns sources)) (site_columns sites) (with_columns-distinct [] (source_columns sources) (λ i j d lt le. absurd (omega (arith, lt, le))))

-- ---- who is held

added-keeps : (names : List Name) (name other : Name) → Has other names → Has other (added names name)
added-keeps names name other has = by (is_some (place_of names name))
  where
    by : (b : Bool) → Has other (if b then names else names ++ name ∷ [])
    by true = has
    by false = Has-append_left other names (name ∷ []) has

held_somewhere : (names : List Name) (name : Name) → is_some (place_of names name) ≡ true → Has name names
held_somewhere names name e = by (place_of names name) refl e (place_of-get names name)
  where
    by : (o : Option ℕ) → place_of names name ≡ o → is_some o ≡ true → IfSome o (λ place. slice_get names place ≡ Some name) → Has name names
    by None is some at = absurd (true≢false (sym some))
    by (Some place) is some at = from_get names place at
      where
        from_get : (xs : List Name) (k : ℕ) → slice_get xs k ≡ Some name → Has name xs
        from_get [] k e = absurd (let no : None ≡ Some name = e in cc)
        from_get (x ∷ xs) zero e = inl (let same : Some x ≡ Some name = e in cc)
        from_get (x ∷ xs) (suc k) e = inr (from_get xs k e)

added-has : (names : List Name) (name : Name) → Has name (added names name)
added-has names name = by (is_some (place_of names name)) refl
  where
    by : (b : Bool) → is_some (place_of names name) ≡ b → Has name (if b then names else names ++ name ∷ [])
    by true e = held_somewhere names name e
    by false e = Has-append_right name names (name ∷ []) (inl refl)

with_columns-keeps : (names columns : List Name) (other : Name) → Has other names → Has other (with_columns names columns)
with_columns-keeps names [] other has = has
with_columns-keeps names (c ∷ columns) other has = with_columns-keeps (added names c) columns other (added-keeps names c other has)

with_columns-has : (names columns : List Name) (other : Name) → Has other columns → Has other (with_columns names columns)
with_columns-has names [] other has = absurd has
with_columns-has names (c ∷ columns) other (inl e) = with_columns-keeps (added names c) columns other (subst (λ (x : Name). Has x (added names c)) e (added-has names c))
with_columns-has names (c ∷ columns) other (inr has) = with_columns-has (added names c) columns other has

-- a column of a source, and one of a port, is an attribute
pub source_column-has : (sources : List SourceEntry) (sites : List Site) (name : Name) → Has name (source_columns sources) → Has name (attributes_in sources sites)
source_column-has sources sites name has = with_columns-keeps (with_columns [] (source_columns sources)) (site_columns sites) name (with_columns-has [] (source_columns sources) name has)

pub port_column-has : (sources : List SourceEntry) (sites : List Site) (name : Name) → Has name (site_columns sites) → Has name (attributes_in sources sites)
port_column-has sources sites name has = with_columns-has (with_columns [] (source_columns sources)) (site_columns sites) name has

-- ---- numbers of attributes

-- the place of a name that is held
pub place-is : (names : List Name) (name : Name) → Has name names → place_of names name ≡ Some (attribute_number names name)
place-is names name has = by (place_of names name) refl
  where
    by : (o : Option ℕ) → place_of names name ≡ o → o ≡ Some (unwrap_or o (length names))
    by None e = absurd (place_of-none names name (subst (λ (p : Option ℕ). IsNone p) (sym e) refl) has)
    by (Some k) e = refl

-- columns that are attributes have their numbers as their roots
pub roots-are : (names columns : List Name) → ((name : Name) → Has name columns → Has name names) → attribute_roots names columns ≡ map Some (map (attribute_number names) columns)
roots-are names [] held = refl
roots-are names (c ∷ columns) held = let one = place-is names c (held c (inl refl)) in let more = roots-are names columns (λ name has. held name (inr has)) in λ i. one i ∷ more i
