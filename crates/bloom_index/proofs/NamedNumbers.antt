-- A collection has the number of its name, so what two lists of sets hold by names they hold by numbers.
use Rattle.std.proofs.Common.{◌≡◌, ◌≢◌, ◌<◌, ℕ, zero, suc, Bool, true, false, cond, List, [], ◌∷◌, length, get_or, Option, None, Some, refl, ap, ◌∙◌, sym, inl, inr, arith}
use Rattle.std.specs.Prelude.{AllPairs, slice_get}
use Rattle.std.specs.Str.{bytes_eq}
use Rattle.std.proofs.lemmas.Bool.{cases_Bool}
use Rattle.std.proofs.lemmas.List.{get_or_past}
use Rattle.std.proofs.lemmas.Option.{slice_get-get_or}
use Rattle.std.proofs.lemmas.Slice.Eq.{bytes_eq-Decides}
use Rattle.blz_value.proofs.Lists.{past_none}
use Rattle.bloom_forms.specs.declared.module.Collection.{Collection}
use Rattle.bloom_forms.specs.Lookup.{is_named, collection_number}
use Rattle.bloom_forms.specs.Query.{Name}
use Rattle.bloom_forms.specs.Step.{Sets, set_at, rows_named}
use Rattle.bloom_forms.proofs.Collections.Numbers.{get-within, number-cons}

abbrev AreDistinct : List Collection → Type 0
AreDistinct cs = AllPairs (λ (c d : Collection). c.name ≢ d.name) cs

some_is : (c d : Collection) → Some c ≡ Some d → c ≡ d
some_is c d e = cc

pub named_number : (cs : List Collection) → AreDistinct cs → (k : ℕ) (c : Collection) → slice_get cs k ≡ Some c → collection_number cs c.name ≡ k
named_number [] apart k c is = absurd (let bad : None ≡ Some c = is in cc)
named_number (x ∷ cs) apart zero c is =
    let same : x ≡ c = some_is x c is in
    let named : is_named c.name x ≡ true = (bytes_eq-Decides x.name c.name).1 (ap (λ (d : Collection). d.name) same) in
    number-cons x cs c.name ∙ ap (λ (b : Bool). cond b 0 (suc (collection_number cs c.name))) named
named_number (x ∷ cs) apart (suc k) c is =
    let lt : k < length cs = get-within cs k c is in
    let at : get_or cs k c ≡ c = some_is (get_or cs k c) c (sym (slice_get-get_or cs k c lt) ∙ is) in
    let other : x.name ≢ c.name = λ e. apart 0 (suc k) c (omega arith) (omega (arith, lt)) (e ∙ sym (ap (λ (d : Collection). d.name) at)) in
    let unnamed : is_named c.name x ≡ false = elim (cases_Bool (bytes_eq x.name c.name)) [ inl t ↦ absurd (other ((bytes_eq-Decides x.name c.name).0 t)) | inr f ↦ f ] in
    let rest : AreDistinct cs = λ i j d below within. apart (suc i) (suc j) d (omega (arith, below)) (omega (arith, within)) in
    number-cons x cs c.name
    ∙ ap (λ (b : Bool). cond b 0 (suc (collection_number cs c.name))) unnamed
    ∙ ap suc (named_number cs rest k c is)

pub by_number : (cs : List Collection) → AreDistinct cs → (xs ys : Sets) → length xs ≡ length cs → length ys ≡ length cs → (k : ℕ) → ((n : Name) → collection_number cs n ≡ k → rows_named cs xs n ≡ rows_named cs ys n) → set_at xs k ≡ set_at ys k
by_number cs apart xs ys many also k each = go (slice_get cs k) refl
  where
    go : (o : Option Collection) → slice_get cs k ≡ o → set_at xs k ≡ set_at ys k
    go None none = get_or_past xs k [] (omega (arith, past_none cs k none, many)) ∙ sym (get_or_past ys k [] (omega (arith, past_none cs k none, also)))
    go (Some c) is =
        let number = named_number cs apart k c is in
        ap (set_at xs) (sym number) ∙ each c.name number ∙ ap (set_at ys) number
