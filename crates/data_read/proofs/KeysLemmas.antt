-- The first unknown key as the map yields its keys, and as the least unknown key of the members.
use Rattle.std.proofs.Common.{◌≡◌, ℕ, Bool, true, false, List, [], ◌∷◌, Option, Some, None, if◌then◌else◌, not, filter, fold, refl, ap, sym, ◌∙◌, string_bytes, String, BTreeMap, Global}
use Rattle.std.specs.List.{list_any, reduce, AllByRecursion}
use Rattle.std.specs.List.Sorted.{IsStrictlySortedBy}
use Rattle.std.specs.Str.{bytes_eq}
use Rattle.std.specs.String.{string_cmp}
use Rattle.std.specs.BTreeMap.{keys}
use Rattle.std.specs.Map.{keys_of}
use Rattle.std.specs.declared.cmp.Ordering.TheVariants.{Less}
use Rattle.serde_json.specs.View.{members_view}
use Rattle.serde_json.specs.declared.value.Value.{Value}
use Rattle.data_read.specs.Keys.{unknown_key, earlier, keys_in}

-- the first of some keys that isn't known
abbrev pub first_unknown : List (List ℕ) → List (String Global) → Option (List ℕ)
first_unknown known [] = None
first_unknown known (key ∷ rest) = if list_any (bytes_eq (string_bytes key)) known then first_unknown known rest else Some (string_bytes key)

first_stays : (key other : String Global) → string_cmp key other ≡ Less → earlier (string_bytes key) (string_bytes other) ≡ string_bytes key
first_stays key other below = rw below refl

-- a key before all others is the earliest of those that are kept
stays : (kept : List ℕ → Bool) (key : String Global) (es : List (String Global × Value)) → AllByRecursion (λ other. string_cmp key other ≡ Less) (keys_of es)
    → fold earlier (string_bytes key) (filter kept (keys_in (members_view es))) ≡ string_bytes key
stays kept key [] above = refl
stays kept key (e ∷ es) above =
    (elim (kept (string_bytes e.0)) as (λ b. fold earlier (string_bytes key) (if b then string_bytes e.0 ∷ filter kept (keys_in (members_view es)) else filter kept (keys_in (members_view es))) ≡ string_bytes key) [
      | true ↦ ap (λ first. fold earlier first (filter kept (keys_in (members_view es)))) (first_stays key e.0 above.0) ∙ stays kept key es above.1
      | false ↦ stays kept key es above.1
    ])

unknown_entry : (known : List (List ℕ)) (es : List (String Global × Value)) → IsStrictlySortedBy string_cmp (keys_of es) → first_unknown known (keys_of es) ≡ unknown_key known (members_view es)
unfolding IsStrictlySortedBy
unknown_entry known [] sorted = refl
unknown_entry known (e ∷ es) sorted =
    let kept : List ℕ → Bool = λ key. not (list_any (bytes_eq key) known) in
    let rest = filter kept (keys_in (members_view es)) in
    (elim (list_any (bytes_eq (string_bytes e.0)) known) as (λ b. (if b then first_unknown known (keys_of es) else Some (string_bytes e.0)) ≡ reduce earlier (if not b then string_bytes e.0 ∷ rest else rest)) [
      | true ↦ unknown_entry known es sorted.1
      | false ↦ ap Some (sym (stays kept e.0 es sorted.0))
    ])

pub unknown_of_keys : (known : List (List ℕ)) (m : BTreeMap (String Global) Value) → IsStrictlySortedBy string_cmp (keys m) → first_unknown known (keys m) ≡ unknown_key known (members_view m.entries)
unknown_of_keys known m sorted = unknown_entry known m.entries sorted
