-- What it says that a module has no fault of a kind.
use Rattle.std.proofs.Common.{◌≡◌, ◌≢◌, ◌≤◌, ◌<◌, ◌+◌, ◌||◌, not, inl, inr, ℕ, zero, suc, Bool, true, false, Option, None, Some, List, [], ◌∷◌, length, take, get_or, nat_lt, refl, arith, ap, sym, ◌∙◌}
use Rattle.std.specs.List.{list_any, AllPairs}
use Rattle.std.specs.Option.{option_or}
use Rattle.std.specs.Str.{bytes_eq}
use Rattle.std.proofs.lemmas.Slice.Eq.{bytes_eq-Decides}
use Rattle.blz_value.specs.FirstPlace.{first_place}
use Rattle.blz_value.specs.Members.{Has}
use Rattle.blz_value.proofs.FirstPlace.{NoneBad, none_bad, length-at_most}
use Rattle.blz_value.proofs.Booleans.{not_false, neither}
use Rattle.bloom_forms.specs.declared.fault.ModuleFault.{ModuleFault}
use Rattle.bloom_forms.specs.declared.fault.ModuleKind.{ModuleKind}
use Rattle.bloom_forms.specs.declared.fault.ModuleKind.TheVariants as kind
use Rattle.bloom_forms.specs.declared.module.Collection.{Collection}
use Rattle.bloom_forms.specs.declared.facts.Facts.{Facts}
use Rattle.bloom_forms.specs.Checks.{IsCollection}
use Rattle.bloom_forms.specs.Faults.{bad_collection, bad_rule, at_places, kind_fault, is_ninth}
use Rattle.bloom_forms.specs.Fits.{is_width, repeats}
use Rattle.bloom_forms.specs.Form.{RuleForm}
use Rattle.bloom_forms.specs.Lookup.{is_named}
use Rattle.bloom_forms.specs.Query.{Name}

-- no fault of a kind

pub no_place : (k : ModuleKind) (a b : Option ℕ) → at_places k a b ≡ None → (a ≡ None) × (b ≡ None)
no_place k None None e = (refl, refl)
no_place k None (Some i) e = cc
no_place k (Some i) b e = cc

pub no_fault : (f g : Option ModuleFault) → option_or f g ≡ None → (f ≡ None) × (g ≡ None)
no_fault None g e = (refl, e)
no_fault (Some f) g e = cc

module _ (cs : List Collection) (f : Facts) (rules : List RuleForm) where
  pub none_of : (k : ModuleKind) → kind_fault f k cs rules ≡ None → (first_place (bad_collection k cs) 0 cs ≡ None) × (first_place (bad_rule k cs f) 0 rules ≡ None)
  none_of k e = no_place k (first_place (bad_collection k cs) 0 cs) (first_place (bad_rule k cs f) 0 rules) e

  pub are_few : kind_fault f kind.TooMany cs rules ≡ None → (length cs ≤ 32) × (length rules ≤ 64)
  are_few e =
      let none = none_of kind.TooMany e in
      let few : 0 + length cs ≤ 32 = length-at_most (bad_collection kind.TooMany cs) 32 (λ x. refl) 0 cs (omega arith) none.0 in
      let few_rules : 0 + length rules ≤ 64 = length-at_most (bad_rule kind.TooMany cs f) 64 (λ x. refl) 0 rules (omega arith) none.1 in
      (omega arith, omega arith)

-- a test that fails at each element, at one of them

pub bad_at : {X : Type 0} (bad : ℕ → X → Bool) (at : ℕ) (xs : List X) → NoneBad bad at xs → (x : X) → Has x xs → (i : ℕ) × (bad i x ≡ false)
bad_at bad at [] none x n = absurd n
bad_at bad at (y ∷ xs) none x (inl e) = (at, ap (bad at) (sym e) ∙ none.0)
bad_at bad at (y ∷ xs) none x (inr n) = bad_at bad (at + 1) xs none.1 x n

pub bad_number : {X : Type 0} (bad : ℕ → X → Bool) (at : ℕ) (xs : List X) → NoneBad bad at xs → (k : ℕ) (d : X) → k < length xs → bad (at + k) (get_or xs k d) ≡ false
bad_number bad at [] none k d lt = absurd (omega arith)
bad_number bad at (y ∷ xs) none zero d lt = let z : at + 0 ≡ at = omega arith in rw z none.0
bad_number bad at (y ∷ xs) none (suc k) d lt = let z : at + suc k ≡ at + 1 + k = omega arith in rw z (bad_number bad (at + 1) xs none.1 k d (omega arith))

pub each_collection : (cs : List Collection) (f : Facts) (rules : List RuleForm) → kind_fault f kind.TooMany cs rules ≡ None → kind_fault f kind.Twice cs rules ≡ None → (c : Collection) → Has c cs → IsCollection c
each_collection cs f rules many twice c n =
    let at = bad_at (bad_collection kind.TooMany cs) 0 cs (none_bad (bad_collection kind.TooMany cs) 0 cs (none_of cs f rules kind.TooMany many).0) c n in
    let two = bad_at (bad_collection kind.Twice cs) 0 cs (none_bad (bad_collection kind.Twice cs) 0 cs (none_of cs f rules kind.Twice twice).0) c n in
    let size = neither (nat_lt 31 at.0) (not (is_width (length c.columns)) || is_ninth (take at.0 cs) c) at.1 in
    let wide = neither (not (is_width (length c.columns))) (is_ninth (take at.0 cs) c) size.1 in
    record {
      width = not_false (is_width (length c.columns)) wide.0;
      distinct = (neither (list_any (is_named c.name) (take two.0 cs)) (repeats c.columns) two.1).1;
    }

-- names of collections stand once

pub any_take : {X : Type 0} (p : X → Bool) (xs : List X) (i j : ℕ) (d : X) → i < j → i < length xs → list_any p (take j xs) ≡ false → p (get_or xs i d) ≡ false
any_take p [] i j d lt le e = absurd (omega arith)
any_take p (x ∷ xs) i zero d lt le e = absurd (omega arith)
any_take p (x ∷ xs) zero (suc j) d lt le e = (neither (p x) (list_any p (take j xs)) e).0
any_take p (x ∷ xs) (suc i) (suc j) d lt le e = any_take p xs i j d (omega arith) (omega arith) (neither (p x) (list_any p (take j xs)) e).1

pub other_name : (a b : Name) → bytes_eq a b ≡ false → a ≢ b
other_name a b e same = let yes : bytes_eq a b ≡ true = (bytes_eq-Decides a b).1 same in let bad : true ≡ false = sym yes ∙ e in cc

pub distinct_names : (cs : List Collection) (f : Facts) (rules : List RuleForm) → kind_fault f kind.Twice cs rules ≡ None → AllPairs (λ c d. c.name ≢ d.name) cs
distinct_names cs f rules e i j d lt le =
    let none = none_bad (bad_collection kind.Twice cs) 0 cs (none_of cs f rules kind.Twice e).0 in
    let later = get_or cs j d in
    let fine : bad_collection kind.Twice cs (0 + j) later ≡ false = bad_number (bad_collection kind.Twice cs) 0 cs none j d le in
    let z : 0 + j ≡ j = omega arith in
    let apart = neither (list_any (is_named later.name) (take j cs)) (repeats later.columns) (rw z at fine) in
    other_name (get_or cs i d).name later.name (any_take (is_named later.name) cs i j d lt (omega arith) apart.0)
