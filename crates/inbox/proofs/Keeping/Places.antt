-- What the places of a partition are after one more.
use Rattle.std.proofs.Common.{◌≡◌, ap, sym, subst, ◌∙◌, ℕ, eqb, false, cond, Some, List, [], ◌∷◌, ◌++◌, inl, inr}
use Rattle.std.specs.BTreeMap.{BTreeMap, get}
use Rattle.std.specs.Cmp.{nat_eq_equiv}
use Rattle.std.proofs.lemmas.Map.Keys.{sorted_from_strictly_increasing, IsStrictlyIncreasing-dedup}
use Rattle.std.proofs.lemmas.Map.Views.{exact_unsigned_eq}
use Rattle.std.specs.FinMap.{nat_cmp-IsAntisymmetric}
use Rattle.std.specs.List.{dedup}
use Rattle.std.specs.List.Sorted.{IsPermutation, IsSorted}
use Rattle.std.proofs.lemmas.Cmp.{nat_cmp_total}
use Rattle.std.proofs.lemmas.List.Sorted.{Contains-permutation, IsPermutation-sym}
use Rattle.std.proofs.lemmas.List.Kept.{Contains-dedup, Contains-from_dedup}
use Rattle.std.specs.Global.{Vec}
use Rattle.std.specs.Option.{option_map_or}
use Rattle.std.specs.Ordering.{is_eq, nat_cmp}
use Rattle.std.proofs.lemmas.Bool.{cases_Bool}
use Rattle.blz_value.specs.Members.{Has}
use Rattle.blz_value.specs.Record.{Row, record_cmp}
use Rattle.blz_value.specs.Sets.{set_by}
use Rattle.blz_value.proofs.Membership.{Has-from_Contains, Contains-from_Has}
use Rattle.blz_value.proofs.SetLemmas.{same_sorted, sorted_set_by, Has-set_by, Has-from_set_by}
use Rattle.topo_forms.specs.Messages.{is_same_row}
use Rattle.inbox.specs.Code.Places.{places_of}
use Rattle.messages.proofs.MessagesLemmas.{is_same_row-is}

pub placed_after : (old mid new : BTreeMap Row (Vec ℕ)) (key : Row) (own : Vec ℕ) (place : ℕ) → ((q : Row) → get record_cmp new q ≡ cond (is_eq (record_cmp key q)) (Some own) (get record_cmp mid q))
    → own.items ≡ places_of old key ++ place ∷ [] → ((k : Row) → is_same_row key k ≡ false → places_of mid k ≡ places_of old k)
    → (k : Row) → places_of new k ≡ cond (is_same_row key k) (places_of old k ++ place ∷ []) (places_of old k)
placed_after old mid new key own place updates items others k = ap (λ o. option_map_or (λ (v : Vec ℕ). v.items) o []) (updates k) ∙ elim (cases_Bool (is_same_row key k)) [
  | inl t ↦
      ap (λ b. option_map_or (λ (v : Vec ℕ). v.items) (cond b (Some own) (get record_cmp mid k)) []) t ∙ items
      ∙ ap (λ q. places_of old q ++ place ∷ []) (is_same_row-is key k t)
      ∙ sym (ap (λ b. cond b (places_of old k ++ place ∷ []) (places_of old k)) t)
  | inr f ↦
      ap (λ b. option_map_or (λ (v : Vec ℕ). v.items) (cond b (Some own) (get record_cmp mid k)) []) f ∙ others k f
      ∙ sym (ap (λ b. cond b (places_of old k ++ place ∷ []) (places_of old k)) f)
]

-- a sort that leaves each place once
pub places-sorted : (places sorted kept : List ℕ) → IsPermutation places sorted → IsSorted nat_cmp sorted → kept ≡ dedup eqb sorted → kept ≡ set_by nat_cmp places
places-sorted places sorted kept moved up is =
    same_sorted nat_cmp nat_cmp_total kept (set_by nat_cmp places)
    (rw is (sorted_from_strictly_increasing (dedup eqb sorted) (IsStrictlyIncreasing-dedup sorted up)))
    (sorted_set_by nat_cmp nat_cmp_total places)
    (λ q h. Has-set_by nat_cmp nat_cmp-IsAntisymmetric q places (Has-from_Contains places q (Contains-permutation sorted places q (IsPermutation-sym places sorted moved) (Contains-from_dedup eqb sorted q (Contains-from_Has _ q (subst (λ z. Has q z) is h))))))
    (λ q h. subst (λ z. Has q z) (sym is) (Has-from_Contains _ q (Contains-dedup nat_eq_equiv exact_unsigned_eq sorted q (Contains-permutation places sorted q moved (Contains-from_Has places q (Has-from_set_by nat_cmp q places h))))))
