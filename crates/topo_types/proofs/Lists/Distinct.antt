-- The distinct elements of a list, counted by a set of what shows them.
use Rattle.std.proofs.Common.{◌≡◌, ℕ, Bool, true, false, cond, Bor, List, [], ◌∷◌, length, map, nat_eq, Option, ◌&&◌, refl, ap, ◌∙◌, sym}
use Rattle.std.specs.BTreeSet as sorted
use Rattle.std.specs.BTreeSet.{BTreeSet, btree_set_len}
use Rattle.std.specs.Cmp.{IsTotalOrder}
use Rattle.std.specs.Cmp.Lexicographic.{slice_cmp, nat_list_cmp_total}
use Rattle.std.specs.Iterator.{DrainsIf}
use Rattle.std.specs.Ordering.{eq_by_cmp, nat_cmp, ordering_then}
use Rattle.std.specs.Set.{is_member, unique_keys, distinct_count}
use Rattle.std.specs.Str.{bytes_eq}
use Rattle.std.specs.declared.cmp.Ordering.{Ordering}
use Rattle.std.proofs.lemmas.List.{length-map}
use Rattle.std.proofs.lemmas.Cmp.{on_total, then_total}
use Rattle.std.proofs.lemmas.Iterator.{YieldsList, items_from_drains}
use Rattle.std.proofs.lemmas.Map.Views.{btree_set_len-from_list}
use Rattle.std.proofs.lemmas.Map.Text.{is_eq-slice_cmp}
use Rattle.blz_value.proofs.Lists.{is_eq-then}
use Rattle.bloom_forms.specs.Query.{Name}
use Rattle.topo_forms.specs.Validity.Twice.{are_distinct, same_pair}

-- ---- a test of what a function shows of the elements

module _ {A X : Type 0} (same : X → X → Bool) (v : A → X) where
  abbrev by_shown : A → A → Bool
  by_shown a b = same (v a) (v b)

  is_member-map : (a : A) (xs : List A) → is_member same (map v xs) (v a) ≡ is_member by_shown xs a
  is_member-map a [] = refl
  is_member-map a (x ∷ xs) = rw (is_member-map a xs) refl

  unique_keys-map : (xs : List A) → unique_keys same (map v xs) ≡ map v (unique_keys by_shown xs)
  unique_keys-map [] = refl
  unique_keys-map (x ∷ xs) = rw (is_member-map x xs, unique_keys-map xs) (either (is_member by_shown xs x))
    where
      either : (b : Bool) → cond b (map v (unique_keys by_shown xs)) (v x ∷ map v (unique_keys by_shown xs)) ≡ map v (cond b (unique_keys by_shown xs) (x ∷ unique_keys by_shown xs))
      either true = refl
      either false = refl

  pub distinct_count-map : (xs : List A) → distinct_count same (map v xs) ≡ distinct_count by_shown xs
  distinct_count-map xs = ap length (unique_keys-map xs) ∙ length-map (unique_keys by_shown xs) v

-- a set that `collect` made has as many elements as the list has distinct ones
pub set_len : {A X S : Type 0} {R : A → A → Ordering} (total : IsTotalOrder R) (same : X → X → Bool) (v : A → X) → ((a b : A) → eq_by_cmp R a b ≡ same (v a) (v b)) → {steps : S → Option A → S → Type 0} {s : S} {all : List X} (n : BTreeSet A) → (xs : List A) × DrainsIf steps (Unit {0}) s xs × sorted.IsFromIterResult R xs n → YieldsList steps v s all → btree_set_len n ≡ distinct_count same all
set_len total same v ties n ran road =
    btree_set_len-from_list total ran.0 n ran.2
    ∙ ap (λ e. distinct_count e ran.0) (λ i a b. ties a b i)
    ∙ sym (distinct_count-map same v ran.0)
    ∙ ap (distinct_count same) (items_from_drains ran.0 ran.1 road)

-- ---- names, and pairs of names

abbrev names_cmp : Bor Name → Bor Name → Ordering
names_cmp a b = slice_cmp nat_cmp a.now b.now

pub names_total : IsTotalOrder names_cmp
names_total = on_total (λ (a : Bor Name). a.now) nat_list_cmp_total

pub names_tie : (a b : Bor Name) → eq_by_cmp names_cmp a b ≡ bytes_eq a.now b.now
names_tie a b = is_eq-slice_cmp a.now b.now

abbrev pairs_cmp : Bor Name × Bor Name → Bor Name × Bor Name → Ordering
pairs_cmp a b = ordering_then (names_cmp a.0 b.0) (names_cmp a.1 b.1)

pub pairs_total : IsTotalOrder pairs_cmp
pairs_total = then_total (on_total (λ (p : Bor Name × Bor Name). p.0) names_total) (on_total (λ (p : Bor Name × Bor Name). p.1) names_total)

pub pairs_tie : (a b : Bor Name × Bor Name) → eq_by_cmp pairs_cmp a b ≡ same_pair (a.0.now, a.1.now) (b.0.now, b.1.now)
pairs_tie a b = is_eq-then (names_cmp a.0 b.0) (names_cmp a.1 b.1) ∙ rw (names_tie a.0 b.0, names_tie a.1 b.1) refl

-- the count against the length of a list that is shown by a function
pub compared : {A X : Type 0} (n : ℕ) (f : A → X) (same : X → X → Bool) (xs : List A) → n ≡ distinct_count same (map f xs) → nat_eq n (length xs) ≡ are_distinct same (map f xs)
compared n f same xs e = rw (e, length-map xs f) refl
