-- The parts of a topology with another mode of one component, as they are made.
use Rattle.std.proofs.Common.{◌≡◌, ◌≢◌, ◌≤◌, ◌<◌, ◌^◌, ◌+◌, ◌-◌, ◌++◌, ℕ, inl, inr, zero, suc, cond, nat_le, true, false, if◌then◌else◌, is_some, IsNone, Option, None, Some, List, [], ◌∷◌, length, map, filter, get_or, refl, arith, ap, sym, subst, ◌∙◌, append_assoc, append-nil}
use Rattle.std.specs.Prelude.{slice_set}
use Rattle.std.specs.List.{AllPairs, range_with_len}
use Rattle.std.proofs.lemmas.Bool.{cases_Bool}
use Rattle.std.proofs.lemmas.Bool.Decides.{nat_tests}
use Rattle.std.proofs.lemmas.List.{get_or_default, length-append}
use Rattle.std.proofs.lemmas.Nat.Bits.{bit_at_above}
use Rattle.std.proofs.Math.ListN.{get_or-append}
use Rattle.std.proofs.Math.Seq.{get_or-append_seam}
use Rattle.blz_value.specs.Members.{Has}
use Rattle.blz_value.proofs.Membership.{Contains-from_Has}
use Rattle.blz_value.specs.Bits.{members}
use Rattle.blz_value.specs.Names.{added, place_of}
use Rattle.blz_value.proofs.Members.{in-bit, member_small}
use Rattle.blz_value.proofs.Places.{place_of-new}
use Rattle.blz_value.proofs.Within.{set_one}
use Rattle.bloom_forms.specs.Query.{Name}
use Rattle.topo_forms.specs.declared.kept.KeptComponent.{KeptComponent}
use Rattle.bloom_forms.specs.declared.mode.Mode.{Mode}
use Rattle.topo_forms.specs.Attributes.{with_columns}
use Rattle.topo_graph.specs.Code.Chosen.{with_members}
use Rattle.blz_value.specs.Graph.{is_in}
use Rattle.topo_forms.specs.Kept.{component_kept}
use Rattle.topo_forms.specs.Modes.{names_in}
use Rattle.topo_forms.specs.View.{component_with_mode, no_component}
use Rattle.topo_graph.proofs.Altered.{set-altered, map-altered}
use Rattle.topo_forms.proofs.Lists.Tables.{chosen_columns}

-- ---- components

-- of equal components, of which one gets another mode, the views
pub remade : (xs others : List KeptComponent) (n : ℕ) (x : KeptComponent) (mode : Mode) → others ≡ xs → x ≡ get_or others n x
    → map component_kept (slice_set others n (record x { mode = mode })) ≡ slice_set (map component_kept xs) n (component_with_mode mode (get_or (map component_kept xs) n no_component))
remade xs others n x mode same here =
    ap (λ (y : KeptComponent). map component_kept (slice_set others n (changed y))) here
    ∙ ap (map component_kept) (set-altered changed n others x)
    ∙ map-altered changed component_kept (component_with_mode mode) (λ y. refl) n others no_component
    ∙ ap (λ (ys : List KeptComponent). slice_set (map component_kept ys) n (component_with_mode mode (get_or (map component_kept ys) n no_component))) same
  where
    changed : KeptComponent → KeptComponent
    changed y = record y { mode = mode }

-- ---- the names in a key

none_past : (set n : ℕ) → set < 2 ^ n → (at many : ℕ) → n ≤ at → filter (λ k. is_in k set) (range_with_len at many) ≡ []
none_past set n small at zero le = refl
none_past set n small at (suc many) le = elim (cases_Bool (is_in at set)) [
  | inl there ↦ absurd (let none = bit_at_above set n at small le in let one = set_one set at (in-bit at set (member_small at set there) there) in omega (arith, none, one))
  | inr e ↦ rw e (none_past set n small (at + 1) many (omega (arith, le)))
]

same_members : (set n at less more : ℕ) → set < 2 ^ n → n ≤ at + less → filter (λ k. is_in k set) (range_with_len at less) ≡ filter (λ k. is_in k set) (range_with_len at (less + more))
same_members set n at zero more small le =
    let z : 0 + more ≡ more = omega arith in
    sym (none_past set n small at more (omega (arith, le))) ∙ ap (λ (m : ℕ). filter (λ k. is_in k set) (range_with_len at m)) (sym z)
same_members set n at (suc less) more small le =
    let z : suc less + more ≡ suc (less + more) = omega arith in
    let later = same_members set n (at + 1) less more small (omega (arith, le)) in
    ap (λ (ks : List ℕ). cond (is_in at set) (at ∷ ks) ks) later ∙ ap (λ (m : ℕ). filter (λ k. is_in k set) (range_with_len at m)) (sym z)

pub key_names : (set : ℕ) (names : List Name) → length names ≤ 64 → set < 2 ^ length names → with_members set names ≡ names_in names set
key_names set names few small = chosen_columns (λ n. is_in n set) [] names ∙ ap (map (λ n. get_or names n [])) same
  where
    same : filter (λ n. is_in n set) (range_with_len 0 (length names)) ≡ members set
    same =
        let z : length names + (64 - length names) ≡ 64 = omega (arith, few) in
        same_members set (length names) 0 (length names) (64 - length names) small (omega arith)
        ∙ ap (λ (m : ℕ). filter (λ n. is_in n set) (range_with_len 0 m)) z
