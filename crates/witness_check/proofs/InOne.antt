-- Which records exactly one of two sets has, and what it means that one is the least of them.
use Rattle.std.proofs.Common.{◌≡◌, ℕ, ◌⊎◌, ◌++◌, Bool, true, false, not, cond, Option, None, Some, List, [], ◌∷◌, refl, inl, inr, ap, ◌∙◌, sym, subst}
use Rattle.std.specs.List.{find}
use Rattle.std.specs.List.Sorted.{IsStrictlySortedBy}
use Rattle.std.specs.Option.{option_map}
use Rattle.std.specs.Cmp.{tied_itself}
use Rattle.std.specs.declared.cmp.Ordering.TheVariants.{Less}
use Rattle.std.proofs.lemmas.Bool.{cases_Bool}
use Rattle.blz_value.specs.Members.{Has}
use Rattle.blz_value.specs.Record.{Row, record_cmp}
use Rattle.blz_value.specs.RecordOrder.{record_cmp_total}
use Rattle.blz_value.specs.Sets.{set_of, IsRowSet}
use Rattle.blz_value.proofs.Membership.{Has-append_left, Has-append_right}
use Rattle.blz_value.proofs.SetLemmas.{all_has}
use Rattle.blz_value.proofs.SetLaws.{sorted_set_of, Has-set_of}
use Rattle.blz_set.proofs.RecordSets.{Has-from_has_row, has_row-from_Has, has_row-from_lacks}
use Rattle.witness_check.specs.declared.difference.Which.{Which}
use Rattle.witness_check.specs.declared.difference.Which.TheVariants.{First, Second}
use Rattle.witness_check.specs.declared.difference.Difference.{Difference}
use Rattle.witness_check.specs.Difference.{has_row, is_in_one, least_in_one, holder, difference_at}

-- this one of two lists has a record, and the other doesn't
abbrev pub Holds : Which → (first second : List Row) → Row → Type 0
Holds First first second r = Has r first × ¬ Has r second
Holds Second first second r = Has r second × ¬ Has r first

-- exactly one has it
abbrev pub IsInOne : (first second : List Row) → Row → Type 0
IsInOne first second r = (which : Which) × Holds which first second r

-- ---- the test

lacks : (rows : List Row) (r : Row) → has_row rows r ≡ false → ¬ Has r rows
lacks rows r fails h = let there : has_row rows r ≡ true = has_row-from_Has rows r h in cc

module _ (first second : List Row) (r : Row) where
  pub in_one : is_in_one first second r ≡ true → IsInOne first second r
  in_one passes = by (has_row first r) (has_row second r) refl refl passes
    where
      by : (s t : Bool) → has_row first r ≡ s → has_row second r ≡ t → cond s (not t) t ≡ true → IsInOne first second r
      by true true x y e = cc
      by true false x y e = (First, (Has-from_has_row first r x, lacks second r y))
      by false true x y e = (Second, (Has-from_has_row second r y, lacks first r x))
      by false false x y e = cc

  first_has : Holds First first second r → has_row first r ≡ true
  first_has h = has_row-from_Has first r h.0

  first_lacks : Holds Second first second r → has_row first r ≡ false
  first_lacks h = has_row-from_lacks first r h.1

  pub passes_in_one : (which : Which) → Holds which first second r → is_in_one first second r ≡ true
  passes_in_one First h = ap (λ s. cond s (not (has_row second r)) (has_row second r)) (first_has h) ∙ ap not (has_row-from_lacks second r h.1)
  passes_in_one Second h = ap (λ s. cond s (not (has_row second r)) (has_row second r)) (first_lacks h) ∙ has_row-from_Has second r h.0

  pub fails_in_one : ¬ IsInOne first second r → is_in_one first second r ≡ false
  fails_in_one none = elim (cases_Bool (is_in_one first second r)) [ inl t ↦ absurd (none (in_one t)) | inr f ↦ f ]

  pub holder_is : (which : Which) → Holds which first second r → holder first r ≡ which
  holder_is First h = ap (λ s. cond s First Second) (first_has h)
  holder_is Second h = ap (λ s. cond s First Second) (first_lacks h)

  held_in_all : (which : Which) → Holds which first second r → Has r (first ++ second)
  held_in_all First h = Has-append_left r first second h.0
  held_in_all Second h = Has-append_right r first second h.0

-- no record stands in just one of two lists that are one
pub none_in_same : (rows : List Row) (r : Row) → ¬ IsInOne rows rows r
none_in_same rows r (First, h) = h.1 h.0
none_in_same rows r (Second, h) = h.1 h.0

-- ---- records of a set and one that is below its first

module _ (z x : Row) (rows : List Row) (sorted : IsRowSet (x ∷ rows)) (below : record_cmp z x ≡ Less) where
  -- it is below each
  pub below_each : (q : Row) → Has q (x ∷ rows) → record_cmp z q ≡ Less
  unfolding IsStrictlySortedBy
  below_each q (inl same) = subst (λ r. record_cmp z r ≡ Less) same below
  below_each q (inr h) = record_cmp_total.trans z x q below (all_has (λ r. record_cmp x r ≡ Less) q rows sorted.0 h)

  -- and isn't there
  pub lacks_below : ¬ Has z (x ∷ rows)
  lacks_below h = let own : record_cmp z z ≡ Less = below_each z h in let tied = tied_itself record_cmp_total z in cc

-- the first or one above it
pub from_first : (x : Row) (rows : List Row) → IsRowSet (x ∷ rows) → (q : Row) → Has q (x ∷ rows) → (x ≡ q) ⊎ (record_cmp x q ≡ Less)
unfolding IsStrictlySortedBy
from_first x rows sorted q (inl same) = inl same
from_first x rows sorted q (inr h) = inr (all_has (λ r. record_cmp x r ≡ Less) q rows sorted.0 h)

-- ---- the first of a set that passes a test

module _ (p : Row → Bool) where
  find_least : (m : Row) (rows : List Row) → IsRowSet rows → Has m rows → p m ≡ true → ((q : Row) → Has q rows → p q ≡ true → (m ≡ q) ⊎ (record_cmp m q ≡ Less)) → find p rows ≡ Some m
  unfolding IsStrictlySortedBy
  find_least m [] sorted h passes least = absurd h
  find_least m (x ∷ rows) sorted h passes least = by (p x) refl h (λ rest. find_least m rows sorted.1 rest passes (λ q n. least q (inr n)))
    where
      by : (b : Bool) → p x ≡ b → (x ≡ m) ⊎ Has m rows → (Has m rows → find p rows ≡ Some m) → cond b (Some x) (find p rows) ≡ Some m
      by true t there later = elim (least x (inl refl) t) [ inl same ↦ ap Some (sym same) | inr under ↦ absurd (lacks_below m x rows sorted under there) ]
      by false f (inl same) later = let other : p m ≡ false = ap p (sym same) ∙ f in cc
      by false f (inr rest) later = later rest

  find_none : (rows : List Row) → ((q : Row) → p q ≡ false) → find p rows ≡ None
  find_none [] fails = refl
  find_none (x ∷ rows) fails = ap (λ b. cond b (Some x) (find p rows)) (fails x) ∙ find_none rows fails

-- ---- the least of two sets

-- what is found: the least record that exactly one list has, with the list that has it; or nothing, where there is none
pub record IsLeast (first second : List Row) (found : Which × Row) : Type 0 where
  pub held : Holds found.0 first second found.1
  pub least : (q : Row) → IsInOne first second q → (found.1 ≡ q) ⊎ (record_cmp found.1 q ≡ Less)

abbrev pub IsFound : (first second : List Row) → Option (Which × Row) → Type 0
IsFound first second None = (q : Row) → ¬ IsInOne first second q
IsFound first second (Some found) = IsLeast first second found

-- the difference that says what was found
abbrev pub said : (stream replica : ℕ) → Which × Row → Difference
said stream replica found = record { stream = stream; replica = replica; held_by = found.0; row = found.1 }

least_is : (first second : List Row) (found : Which × Row) → IsLeast first second found → least_in_one first second ≡ Some found.1
least_is first second found h =
    find_least (is_in_one first second) found.1 (set_of (first ++ second)) (sorted_set_of (first ++ second))
    (Has-set_of found.1 (first ++ second) (held_in_all first second found.1 found.0 h.held))
    (passes_in_one first second found.1 found.0 h.held) (λ q there passes. h.least q (in_one first second q passes))

pub difference_is : (stream replica : ℕ) (first second : List Row) (o : Option (Which × Row)) → IsFound first second o → difference_at stream replica first second ≡ option_map (said stream replica) o
difference_is stream replica first second None none =
    ap (option_map (λ r. said stream replica (holder first r, r))) (find_none (is_in_one first second) (set_of (first ++ second)) (λ q. fails_in_one first second q (none q)))
difference_is stream replica first second (Some found) h =
    ap (option_map (λ r. said stream replica (holder first r, r))) (least_is first second found h)
    ∙ ap (λ which. Some (said stream replica (which, found.1))) (holder_is first second found.1 found.0 h.held)
