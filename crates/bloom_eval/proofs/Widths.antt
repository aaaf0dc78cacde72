-- Sets of collections, whose rows have their widths.
use Rattle.std.proofs.Common.{◌≡◌, ◌≢◌, ℕ, zero, suc, Bool, true, false, cond, List, [], ◌∷◌, length, take, map, filter, slice_get, Option, None, Some, refl, ap, ◌∙◌, sym, subst, ◌⊎◌, inl, inr, arith}
use Rattle.std.specs.Prelude.{slice_set}
use Rattle.std.specs.List.{zip}
use Rattle.std.specs.Option.{option_map_or}
use Rattle.std.proofs.lemmas.List.FromFn.{length-map-range_with_len}
use Rattle.blz_value.specs.Record.{Row}
use Rattle.bloom_forms.specs.declared.module.Kind.{Kind}
use Rattle.bloom_forms.specs.declared.module.Kind.TheVariants.{Input, Output, Table, Scratch}
use Rattle.bloom_forms.specs.declared.module.Collection.{Collection}
use Rattle.bloom_forms.specs.Query.{Name}
use Rattle.bloom_forms.specs.Kinds.{same_kind, of_kind, kind_at, place_in_kind}
use Rattle.bloom_forms.specs.Lookup.{collection_number, declared}
use Rattle.bloom_forms.specs.Program.{columns_of_kind}
use Rattle.bloom_forms.specs.Step.{Sets, set_at, rows_named, begun, begun_at, at_start, sets_of_kind}
use Rattle.bloom_forms.proofs.Collections.Numbers.{get-number, derived-no_port}
use Rattle.bloom_forms.proofs.Ends.Equated.{starts}
use Rattle.bloom_eval.specs.Begin.{AreLeft}
use Rattle.bloom_forms.specs.Widths.{AreWide}
use Rattle.bloom_forms.specs.Widths.{AreSetsOf}
use Rattle.bloom_eval.specs.Taken.{AreSetsOfAll, AreBegun}

-- the columns of the collection with the number
abbrev pub columns_at : List Collection → ℕ → List Name
columns_at cs k = option_map_or (λ (c : Collection). c.columns) (slice_get cs k) []

pub none_wide : (n : ℕ) → AreWide n []
none_wide n k d lt = absurd (omega (arith, lt))

-- ---- place by place

pub length-sets_of : (columns : List (List Name)) (sets : Sets) → AreSetsOf columns sets → length sets ≡ length columns
length-sets_of [] [] all = refl
length-sets_of [] (s ∷ sets) all = absurd all
length-sets_of (names ∷ columns) [] all = absurd all
length-sets_of (names ∷ columns) (s ∷ sets) all = ap suc (length-sets_of columns sets all.1)

pub length-sets_of_all : (cs : List Collection) (sets : Sets) → AreSetsOfAll cs sets → length sets ≡ length cs
length-sets_of_all [] [] all = refl
length-sets_of_all [] (s ∷ sets) all = absurd all
length-sets_of_all (c ∷ cs) [] all = absurd all
length-sets_of_all (c ∷ cs) (s ∷ sets) all = ap suc (length-sets_of_all cs sets all.1)

pub wide_at : (cs : List Collection) (sets : Sets) → AreSetsOfAll cs sets → (k : ℕ) → AreWide (length (columns_at cs k)) (set_at sets k)
wide_at [] [] all k = none_wide 0
wide_at [] (s ∷ sets) all k = absurd all
wide_at (c ∷ cs) [] all k = absurd all
wide_at (c ∷ cs) (s ∷ sets) all zero = all.0
wide_at (c ∷ cs) (s ∷ sets) all (suc k) = wide_at cs sets all.1 k

pub all_wide : (cs : List Collection) (sets : Sets) → length sets ≡ length cs → ((k : ℕ) → AreWide (length (columns_at cs k)) (set_at sets k)) → AreSetsOfAll cs sets
all_wide [] [] same each = tt
all_wide [] (s ∷ sets) same each = absurd (omega (arith, same))
all_wide (c ∷ cs) [] same each = absurd (omega (arith, same))
all_wide (c ∷ cs) (s ∷ sets) same each = (each 0, all_wide cs sets (omega (arith, same)) (λ k. each (suc k)))

pub set_wide : (cs : List Collection) (sets : Sets) (h : ℕ) (rows : List Row) → AreSetsOfAll cs sets → AreWide (length (columns_at cs h)) rows → AreSetsOfAll cs (slice_set sets h rows)
set_wide [] [] h rows all wide = all
set_wide [] (s ∷ sets) h rows all wide = absurd all
set_wide (c ∷ cs) [] h rows all wide = absurd all
set_wide (c ∷ cs) (s ∷ sets) zero rows all wide = (wide, all.1)
set_wide (c ∷ cs) (s ∷ sets) (suc h) rows all wide = (all.0, set_wide cs sets h rows all.1 wide)

-- the columns of a name are those of its collection
pub columns-number : (cs : List Collection) (name : Name) → columns_at cs (collection_number cs name) ≡ declared cs name
columns-number cs name = ap (λ o. option_map_or (λ (c : Collection). c.columns) o []) (get-number cs name)

pub wide_named : (cs : List Collection) (sets : Sets) → AreSetsOfAll cs sets → (name : Name) → AreWide (length (declared cs name)) (rows_named cs sets name)
wide_named cs sets all name = subst (λ (columns : List Name). AreWide (length columns) (rows_named cs sets name)) (columns-number cs name) (wide_at cs sets all (collection_number cs name))

-- ---- the sets of a kind

-- the set of a collection, among those of its kind
kind_wide : (kind : Kind) (cs : List Collection) (sets : Sets) → AreSetsOf (columns_of_kind kind cs) sets → (k : ℕ) → kind_at cs k ≡ Some kind → AreWide (length (columns_at cs k)) (set_at sets (place_in_kind kind cs k))
kind_wide kind [] sets all k is = absurd (let bad : None ≡ Some kind = is in cc)
kind_wide kind (c ∷ cs) sets all zero is = first (same_kind kind c.kind) (some_kind c.kind kind is) sets all
  where
    self : (a : Kind) → same_kind a a ≡ true
    self Input = refl
    self Output = refl
    self Table = refl
    self Scratch = refl

    some_kind : (a b : Kind) → Some a ≡ Some b → same_kind b a ≡ true
    some_kind a b e = let same : a ≡ b = cc in subst (λ (o : Kind). same_kind o a ≡ true) same (self a)

    first : (b : Bool) → b ≡ true → (held : Sets) → AreSetsOf (map (λ (d : Collection). d.columns) (cond b (c ∷ of_kind kind cs) (of_kind kind cs))) held → AreWide (length c.columns) (set_at held 0)
    first true e [] all = absurd all
    first true e (s ∷ held) all = all.0
    first false e held all = absurd cc
kind_wide kind (c ∷ cs) sets all (suc k) is = go (same_kind kind c.kind) sets all (λ held each. kind_wide kind cs held each k is)
  where
    go : (b : Bool) (held : Sets) → AreSetsOf (map (λ (d : Collection). d.columns) (cond b (c ∷ of_kind kind cs) (of_kind kind cs))) held
        → ((rest : Sets) → AreSetsOf (columns_of_kind kind cs) rest → AreWide (length (columns_at cs k)) (set_at rest (place_in_kind kind cs k)))
        → AreWide (length (columns_at cs k)) (set_at held (length (cond b (c ∷ of_kind kind (take k cs)) (of_kind kind (take k cs)))))
    go true [] all more = absurd all
    go true (s ∷ held) all more = more held all.1
    go false held all more = more held all

pub kinds_wide : (kind : Kind) (cs : List Collection) (sets : Sets) → AreSetsOfAll cs sets → AreSetsOf (columns_of_kind kind cs) (sets_of_kind kind cs sets)
kinds_wide kind [] sets all = tt
kinds_wide kind (c ∷ cs) [] all = absurd all
kinds_wide kind (c ∷ cs) (s ∷ sets) all = go (same_kind kind c.kind) (kinds_wide kind cs sets all.1)
  where
    go : (b : Bool) → AreSetsOf (columns_of_kind kind cs) (sets_of_kind kind cs sets)
        → AreSetsOf (map (λ (d : Collection). d.columns) (cond b (c ∷ of_kind kind cs) (of_kind kind cs))) (map (λ (held : Collection × List Row). held.1) (cond b ((c, s) ∷ filter (λ (held : Collection × List Row). same_kind kind held.0.kind) (zip cs sets)) (filter (λ (held : Collection × List Row). same_kind kind held.0.kind) (zip cs sets))))
    go true more = (all.0, more)
    go false more = more

-- ---- the beginning of a step

module _ (cs : List Collection) (kept now : Sets) where
  begun_wide : AreSetsOf (columns_of_kind Table cs) kept → AreSetsOf (columns_of_kind Input cs) now → (k : ℕ) (o : Option Kind) → kind_at cs k ≡ o → AreWide (length (columns_at cs k)) (begun o (set_at kept (place_in_kind Table cs k)) (set_at now (place_in_kind Input cs k)))
  begun_wide tables ports k None is = none_wide (length (columns_at cs k))
  begun_wide tables ports k (Some Input) is = kind_wide Input cs now ports k is
  begun_wide tables ports k (Some Output) is = none_wide (length (columns_at cs k))
  begun_wide tables ports k (Some Table) is = kind_wide Table cs kept tables k is
  begun_wide tables ports k (Some Scratch) is = none_wide (length (columns_at cs k))

  begun_fresh : (o : Option Kind) (table port : List Row) → o ≢ Some Input → o ≢ Some Table → begun o table port ≡ []
  begun_fresh None table port input kind = refl
  begun_fresh (Some Input) table port input kind = absurd (input refl)
  begun_fresh (Some Output) table port input kind = refl
  begun_fresh (Some Table) table port input kind = absurd (kind refl)
  begun_fresh (Some Scratch) table port input kind = refl

  pub are_begun : AreSetsOf (columns_of_kind Table cs) kept → AreSetsOf (columns_of_kind Input cs) now → AreBegun cs (at_start cs kept now)
  are_begun tables ports = record {
    wide = all_wide cs (at_start cs kept now) (length-map-range_with_len (begun_at cs kept now) 0 (length cs))
        (λ k. subst (λ (rows : List Row). AreWide (length (columns_at cs k)) rows) (sym (starts cs kept now k)) (begun_wide tables ports k (kind_at cs k) refl));
    fresh = λ h derived kind. starts cs kept now h ∙ begun_fresh (kind_at cs h) (set_at kept (place_in_kind Table cs h)) (set_at now (place_in_kind Input cs h)) (λ port. derived-no_port cs h derived port) kind;
  }

-- ---- what is left of the tables

pub left_wide : (columns : List (List Name)) (old new : Sets) → AreLeft old new → AreSetsOf columns old → AreSetsOf columns new
left_wide columns old new left all = go columns old new left.many left.each all
  where
    go : (names : List (List Name)) (xs ys : Sets) → length ys ≡ length xs → ((k : ℕ) → (set_at ys k ≡ set_at xs k) ⊎ (set_at ys k ≡ [])) → AreSetsOf names xs → AreSetsOf names ys
    go [] [] [] same each all = tt
    go [] [] (y ∷ ys) same each all = absurd (omega (arith, same))
    go [] (x ∷ xs) ys same each all = absurd all
    go (n ∷ names) [] ys same each all = absurd all
    go (n ∷ names) (x ∷ xs) [] same each all = absurd (omega (arith, same))
    go (n ∷ names) (x ∷ xs) (y ∷ ys) same each all = (
      elim (each 0) [ inl e ↦ subst (λ (rows : List Row). AreWide (length n) rows) (sym e) all.0 | inr e ↦ subst (λ (rows : List Row). AreWide (length n) rows) (sym e) (none_wide (length n)) ],
      go names xs ys (omega (arith, same)) (λ k. each (suc k)) all.1,
    )
