-- Collections by their numbers, and by their names.
use Rattle.std.proofs.Common.{◌≡◌, ◌<◌, ℕ, zero, suc, Bool, true, false, cond, List, [], ◌∷◌, length, take, map, filter, slice_get, Option, None, Some, refl, ap, ◌∙◌, sym, subst, ◌⊎◌, inl, inr, arith}
use Rattle.std.specs.Prelude.{◌==◌, unwrap_or}
use Rattle.std.specs.List.{position_from, zip}
use Rattle.std.specs.Option.{option_map}
use Rattle.std.specs.Str.{bytes_eq}
use Rattle.std.proofs.lemmas.Bool.{cases_Bool, eq-eqb, ne_eqb}
use Rattle.std.proofs.lemmas.Slice.Eq.{bytes_eq-Decides}
use Rattle.blz_value.specs.Record.{Row}
use Rattle.blz_value.proofs.Lists.{position_from-suc}
use Rattle.blz_value.proofs.Options.{unwrap_or-suc}
use Rattle.bloom_forms.specs.declared.module.Kind.{Kind}
use Rattle.bloom_forms.specs.declared.module.Kind.TheVariants.{Input, Output, Table, Scratch}
use Rattle.bloom_forms.specs.declared.module.Collection.{Collection}
use Rattle.bloom_forms.specs.Query.{Name}
use Rattle.bloom_forms.specs.Form.{RuleForm}
use Rattle.bloom_forms.specs.Lookup.{is_named, collection_named, collection_number, kind_of}
use Rattle.bloom_forms.specs.Kinds.{same_kind, of_kind, kind_at, place_in_kind}
use Rattle.bloom_forms.specs.Heads.{IsDerived}
use Rattle.bloom_forms.specs.Step.{Sets, set_at, sets_of_kind, rules_at}
use Rattle.bloom_forms.specs.Equations.{rules_of}

-- ---- names and numbers

pub number-cons : (c : Collection) (cs : List Collection) (name : Name) → collection_number (c ∷ cs) name ≡ cond (is_named name c) 0 (suc (collection_number cs name))
number-cons c cs name = go (is_named name c) (position_from-suc (is_named name) 0 cs)
  where
    go : (b : Bool) → position_from (is_named name) 1 cs ≡ option_map suc (position_from (is_named name) 0 cs) → unwrap_or (cond b (Some 0) (position_from (is_named name) 1 cs)) (suc (length cs)) ≡ cond b 0 (suc (collection_number cs name))
    go true e = refl
    go false e = ap (λ o. unwrap_or o (suc (length cs))) e ∙ unwrap_or-suc (position_from (is_named name) 0 cs) (length cs)

-- the first collection of a name stands at its number
pub get-number : (cs : List Collection) (name : Name) → slice_get cs (collection_number cs name) ≡ collection_named cs name
get-number [] name = refl
get-number (c ∷ cs) name = ap (slice_get (c ∷ cs)) (number-cons c cs name) ∙ go (is_named name c) (get-number cs name)
  where
    go : (b : Bool) → slice_get cs (collection_number cs name) ≡ collection_named cs name → slice_get (c ∷ cs) (cond b 0 (suc (collection_number cs name))) ≡ cond b (Some c) (collection_named cs name)
    go true e = refl
    go false e = e

pub kind-number : (cs : List Collection) (name : Name) → kind_at cs (collection_number cs name) ≡ kind_of cs name
kind-number cs name = ap (option_map (λ (c : Collection). c.kind)) (get-number cs name)

-- collections with one number have one name
one_name : (cs : List Collection) (a b : Name) → collection_number cs b < length cs → collection_number cs a ≡ collection_number cs b → a ≡ b
one_name [] a b lt same = absurd (omega (arith, lt))
one_name (c ∷ cs) a b lt same =
    go (is_named a c) (is_named b c) refl refl (rw (number-cons c cs b) at lt) (sym (number-cons c cs a) ∙ same ∙ number-cons c cs b) (one_name cs a b)
  where
    go : (p q : Bool) → is_named a c ≡ p → is_named b c ≡ q → cond q 0 (suc (collection_number cs b)) < suc (length cs) → cond p 0 (suc (collection_number cs a)) ≡ cond q 0 (suc (collection_number cs b)) → (collection_number cs b < length cs → collection_number cs a ≡ collection_number cs b → a ≡ b) → a ≡ b
    go true true e f lt same more = sym ((bytes_eq-Decides c.name a).0 e) ∙ (bytes_eq-Decides c.name b).0 f
    go true false e f lt same more = absurd (omega (arith, same))
    go false true e f lt same more = absurd (omega (arith, same))
    go false false e f lt same more = more (omega (arith, lt)) (omega (arith, same))

same_test : (cs : List Collection) (a b : Name) → collection_number cs b < length cs → (collection_number cs a == collection_number cs b) ≡ bytes_eq a b
same_test cs a b lt = elim (cases_Bool (bytes_eq a b)) [
  | inl e ↦ eq-eqb (collection_number cs a) (collection_number cs b) (ap (collection_number cs) ((bytes_eq-Decides a b).0 e)) ∙ sym e
  | inr e ↦ ne_eqb (collection_number cs a) (collection_number cs b) (λ same. differ e (one_name cs a b lt same)) ∙ sym e
]
  where
    differ : bytes_eq a b ≡ false → a ≡ b → ⊥
    differ e same = let yes : bytes_eq a b ≡ true = (bytes_eq-Decides a b).1 same in cc

-- the rules of a collection that is there are those of its name
pub rules-number : (cs : List Collection) (rules : List RuleForm) (name : Name) → collection_number cs name < length cs → rules_at cs rules (collection_number cs name) ≡ rules_of rules name
rules-number cs rules name lt = λ i. filter (λ (rule : RuleForm). same_test cs rule.0 name lt i) rules

-- ---- kinds

-- a collection that is there
pub get-within : {X : Type 0} (xs : List X) (k : ℕ) (x : X) → slice_get xs k ≡ Some x → k < length xs
get-within [] k x e = absurd (let bad : None ≡ Some x = e in cc)
get-within (y ∷ xs) zero x e = omega arith
get-within (y ∷ xs) (suc k) x e = omega (arith, get-within xs k x e)

-- a collection is derived, or it is none, or it is a port
pub derived_or : (cs : List Collection) (k : ℕ) → IsDerived cs k ⊎ ((kind_at cs k ≡ None) ⊎ (kind_at cs k ≡ Some Input))
derived_or cs k = go (slice_get cs k) refl
  where
    kinds : (c : Collection) (kind : Kind) → c.kind ≡ kind → slice_get cs k ≡ Some c → IsDerived cs k ⊎ ((kind_at cs k ≡ None) ⊎ (kind_at cs k ≡ Some Input))
    kinds c Input e is = inr (inr (ap (option_map (λ (d : Collection). d.kind)) is ∙ ap Some e))
    kinds c Output e is = inl (record { collection = c; stands = is; none_arrives = λ f. cc })
    kinds c Table e is = inl (record { collection = c; stands = is; none_arrives = λ f. cc })
    kinds c Scratch e is = inl (record { collection = c; stands = is; none_arrives = λ f. cc })

    go : (o : Option Collection) → slice_get cs k ≡ o → IsDerived cs k ⊎ ((kind_at cs k ≡ None) ⊎ (kind_at cs k ≡ Some Input))
    go None is = inr (inl (ap (option_map (λ (d : Collection). d.kind)) is))
    go (Some c) is = kinds c c.kind refl is

pub derived-some : (cs : List Collection) (k : ℕ) → IsDerived cs k → kind_at cs k ≡ None → ⊥
derived-some cs k d none = let is : kind_at cs k ≡ Some d.collection.kind = ap (option_map (λ (c : Collection). c.kind)) d.stands in cc

pub derived-no_port : (cs : List Collection) (k : ℕ) → IsDerived cs k → kind_at cs k ≡ Some Input → ⊥
derived-no_port cs k d port = let is : kind_at cs k ≡ Some d.collection.kind = ap (option_map (λ (c : Collection). c.kind)) d.stands in d.none_arrives (some-is d.collection.kind Input (sym is ∙ port))
  where
    some-is : (a b : Kind) → Some a ≡ Some b → a ≡ b
    some-is a b e = cc

-- ---- the sets of a kind

same_kind-refl : (kind : Kind) → same_kind kind kind ≡ true
same_kind-refl Input = refl
same_kind-refl Output = refl
same_kind-refl Table = refl
same_kind-refl Scratch = refl

some_kind : (a b : Kind) → Some a ≡ Some b → same_kind b a ≡ true
some_kind a b e = let same : a ≡ b = cc in subst (λ k. same_kind k a ≡ true) same (same_kind-refl a)

-- the set of a collection, among the sets of its kind
pub set-of_kind : (kind : Kind) (cs : List Collection) (sets : Sets) (k : ℕ) → length sets ≡ length cs → kind_at cs k ≡ Some kind → set_at (sets_of_kind kind cs sets) (place_in_kind kind cs k) ≡ set_at sets k
set-of_kind kind [] sets k same is = absurd (let bad : None ≡ Some kind = is in cc)
set-of_kind kind (c ∷ cs) [] k same is = absurd (omega (arith, same))
set-of_kind kind (c ∷ cs) (s ∷ sets) zero same is = rw (some_kind c.kind kind is) refl
set-of_kind kind (c ∷ cs) (s ∷ sets) (suc k) same is = go (same_kind kind c.kind) (set-of_kind kind cs sets k (omega (arith, same)) is)
  where
    go : (b : Bool) → set_at (sets_of_kind kind cs sets) (place_in_kind kind cs k) ≡ set_at sets k
        → set_at (map (λ (held : Collection × List Row). held.1) (cond b ((c, s) ∷ filter (λ (held : Collection × List Row). same_kind kind held.0.kind) (zip cs sets)) (filter (λ (held : Collection × List Row). same_kind kind held.0.kind) (zip cs sets)))) (length (cond b (c ∷ of_kind kind (take k cs)) (of_kind kind (take k cs)))) ≡ set_at sets k
    go true e = e
    go false e = e
