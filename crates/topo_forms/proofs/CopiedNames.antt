-- A list of distinct names is made by adding each.
use Rattle.std.proofs.Common.{◌≡◌, ◌≢◌, ◌++◌, ℕ, true, false, if◌then◌else◌, is_some, IsNone, Option, None, Some, List, [], ◌∷◌, length, refl, arith, ap, sym, subst, ◌∙◌, append_assoc, append-nil}
use Rattle.std.specs.List.{AllPairs}
use Rattle.std.proofs.lemmas.List.{get_or_default, length-append}
use Rattle.std.proofs.Math.ListN.{get_or-append}
use Rattle.std.proofs.Math.Seq.{get_or-append_seam}
use Rattle.blz_value.specs.Members.{Has}
use Rattle.blz_value.proofs.Membership.{Contains-from_Has}
use Rattle.blz_value.specs.Names.{added, place_of}
use Rattle.blz_value.proofs.Places.{place_of-new}
use Rattle.bloom_forms.specs.Query.{Name}
use Rattle.topo_forms.specs.Attributes.{with_columns}

added_last : (before : List Name) (name : Name) (after : List Name) → AllPairs (λ (a b : Name). a ≢ b) (before ++ name ∷ after) → added before name ≡ before ++ name ∷ []
added_last before name after apart = by (place_of before name) (place_of-new before name fresh)
  where
    fresh : Has name before → ⊥
    fresh has =
        let place = Contains-from_Has before name has in
        apart place.0 (length before) [] place.1 (omega (arith, length-append before (name ∷ after)))
        (get_or-append before (name ∷ after) [] place.0 place.1 ∙ get_or_default before place.0 [] name place.1 ∙ place.2 ∙ sym (get_or-append_seam before name after []))

    by : (o : Option ℕ) → IsNone o → (if is_some o then before else before ++ name ∷ []) ≡ before ++ name ∷ []
    by None e = refl
    by (Some k) e = absurd (let bad : true ≡ false = e in cc)

all_added : (before names : List Name) → AllPairs (λ (a b : Name). a ≢ b) (before ++ names) → with_columns before names ≡ before ++ names
all_added before [] apart = sym (append-nil before)
all_added before (name ∷ names) apart =
    let one = added_last before name names apart in
    let line : (before ++ name ∷ []) ++ names ≡ before ++ name ∷ names = append_assoc before (name ∷ []) names in
    ap (λ (start : List Name). with_columns start names) one
    ∙ all_added (before ++ name ∷ []) names (subst (λ (all : List Name). AllPairs (λ (a b : Name). a ≢ b) all) (sym line) apart)
    ∙ line

pub copied_names : (names : List Name) → AllPairs (λ (a b : Name). a ≢ b) names → with_columns [] names ≡ names
copied_names names apart = all_added [] names apart
