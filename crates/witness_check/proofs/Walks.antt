-- Two sets that are walked side by side are equal up to a place at which the lesser of two records, or the one where the other set ends, is the least that exactly one has.
use Rattle.std.proofs.Common.{◌≡◌, ◌⊎◌, ℕ, Option, None, Some, List, [], ◌∷◌, refl, inl, inr, ap, ◌∙◌, sym, subst}
use Rattle.std.specs.List.Sorted.{IsStrictlySortedBy}
use Rattle.std.specs.Option.{option_map}
use Rattle.std.specs.Ordering.{match_ordering}
use Rattle.std.specs.declared.cmp.Ordering.{Ordering}
use Rattle.std.specs.declared.cmp.Ordering.TheVariants.{Less, Equal, Greater}
use Rattle.std.proofs.lemmas.Option.{none-some}
use Rattle.blz_value.specs.Members.{Has}
use Rattle.blz_value.specs.Record.{Row, record_cmp}
use Rattle.blz_value.specs.RecordOrder.{record_cmp_total, record_cmp_exact}
use Rattle.blz_value.specs.Sets.{IsRowSet}
use Rattle.blz_value.proofs.SetLemmas.{below_not_in, turned}
use Rattle.witness_check.specs.declared.difference.Which.{Which}
use Rattle.witness_check.specs.declared.difference.Which.TheVariants.{First, Second}
use Rattle.witness_check.specs.Difference.{difference_at}
use Rattle.witness_check.specs.Code.Walk.{first_unequal}
use Rattle.witness_check.proofs.InOne.{Holds, IsInOne, IsLeast, IsFound, said, difference_is, below_each, lacks_below, from_first}

-- ---- what the walk finds

module _ (x : Row) (first : List Row) where
  -- the other set has ended
  only_first : IsRowSet (x ∷ first) → IsLeast (x ∷ first) [] (First, x)
  only_first sorted = record { held = (inl refl, λ n. n); least = λ q h. by q h }
    where
      by : (q : Row) → IsInOne (x ∷ first) [] q → (x ≡ q) ⊎ (record_cmp x q ≡ Less)
      by q (First, h) = from_first x first sorted q h.0
      by q (Second, h) = absurd h.0

  only_second : IsRowSet (x ∷ first) → IsLeast [] (x ∷ first) (Second, x)
  only_second sorted = record { held = (inl refl, λ n. n); least = λ q h. by q h }
    where
      by : (q : Row) → IsInOne [] (x ∷ first) q → (x ≡ q) ⊎ (record_cmp x q ≡ Less)
      by q (First, h) = absurd h.0
      by q (Second, h) = from_first x first sorted q h.0

module _ (x y : Row) (first second : List Row) (s : IsRowSet (x ∷ first)) (t : IsRowSet (y ∷ second)) where
  lesser_first : record_cmp x y ≡ Less → IsLeast (x ∷ first) (y ∷ second) (First, x)
  lesser_first less = record { held = (inl refl, lacks_below x y second t less); least = λ q h. by q h }
    where
      by : (q : Row) → IsInOne (x ∷ first) (y ∷ second) q → (x ≡ q) ⊎ (record_cmp x q ≡ Less)
      by q (First, h) = from_first x first s q h.0
      by q (Second, h) = inr (below_each x y second t less q h.0)

  lesser_second : record_cmp y x ≡ Less → IsLeast (x ∷ first) (y ∷ second) (Second, y)
  lesser_second less = record { held = (inl refl, lacks_below y x first s less); least = λ q h. by q h }
    where
      by : (q : Row) → IsInOne (x ∷ first) (y ∷ second) q → (y ≡ q) ⊎ (record_cmp y q ≡ Less)
      by q (First, h) = inr (below_each y x first s less q h.0)
      by q (Second, h) = from_first y second t q h.0

-- a record that both have in front changes nothing
module _ (x : Row) (first second : List Row) (s : IsRowSet (x ∷ first)) (t : IsRowSet (x ∷ second)) where
  in_rest : (rows : List Row) (q : Row) → ¬ (x ≡ q) → Has q (x ∷ rows) → Has q rows
  in_rest rows q other (inl same) = absurd (other same)
  in_rest rows q other (inr h) = h

  shorter : (q : Row) → IsInOne (x ∷ first) (x ∷ second) q → IsInOne first second q
  shorter q (First, h) = (First, (in_rest first q (λ e. h.1 (inl e)) h.0, λ n. h.1 (inr n)))
  shorter q (Second, h) = (Second, (in_rest second q (λ e. h.1 (inl e)) h.0, λ n. h.1 (inr n)))

  apart : (rows : List Row) → IsRowSet (x ∷ rows) → (m : Row) → Has m rows → ¬ (x ≡ m)
  unfolding IsStrictlySortedBy
  apart rows sorted m h e = below_not_in record_cmp record_cmp_total x rows sorted.0 (subst (λ r. Has r rows) (sym e) h)

  lacks_more : (rows : List Row) (m : Row) → ¬ (x ≡ m) → ¬ Has m rows → ¬ Has m (x ∷ rows)
  lacks_more rows m other lacks (inl e) = other e
  lacks_more rows m other lacks (inr h) = lacks h

  longer : (which : Which) (m : Row) → Holds which first second m → Holds which (x ∷ first) (x ∷ second) m
  longer First m h = (inr h.0, lacks_more second m (apart first s m h.0) h.1)
  longer Second m h = (inr h.0, lacks_more first m (apart second t m h.0) h.1)

  found_behind : (o : Option (Which × Row)) → IsFound first second o → IsFound (x ∷ first) (x ∷ second) o
  found_behind None none = λ q h. none q (shorter q h)
  found_behind (Some found) h = record { held = longer found.0 found.1 h.held; least = λ q there. h.least q (shorter q there) }

walk_finds : (first second : List Row) → IsRowSet first → IsRowSet second → IsFound first second (first_unequal first second)
unfolding IsStrictlySortedBy
walk_finds [] [] s t = λ q h. none q h
  where
    none : (q : Row) → ¬ IsInOne [] [] q
    none q (First, h) = h.0
    none q (Second, h) = h.0
walk_finds [] (y ∷ second) s t = only_second y second t
walk_finds (x ∷ first) [] s t = only_first x first s
walk_finds (x ∷ first) (y ∷ second) s t = by (record_cmp x y) refl (walk_finds first second s.1 t.1)
  where
    by : (o : Ordering) → record_cmp x y ≡ o → IsFound first second (first_unequal first second) → IsFound (x ∷ first) (y ∷ second) (match_ordering o (Some (First, x)) (first_unequal first second) (Some (Second, y)))
    by Less e later = lesser_first x y first second s t e
    by Equal e later =
        let same : x ≡ y = record_cmp_exact x y e in
        subst (λ z. IsFound (x ∷ first) (z ∷ second) (first_unequal first second)) same
        (found_behind x first second s (subst (λ z. IsRowSet (z ∷ second)) (sym same) t) (first_unequal first second) later)
    by Greater e later = lesser_second x y first second s t (turned record_cmp record_cmp_total x y e)

-- so it gives the difference of two sets
pub walk_is : (stream replica : ℕ) (first second : List Row) → IsRowSet first → IsRowSet second → difference_at stream replica first second ≡ option_map (said stream replica) (first_unequal first second)
walk_is stream replica first second s t = difference_is stream replica first second (first_unequal first second) (walk_finds first second s t)

-- and finds nothing where the lists are one alone
pub walk_same : (first second : List Row) → first_unequal first second ≡ None → first ≡ second
walk_same [] [] none = refl
walk_same [] (y ∷ second) none = absurd (none-some (Second, y) (sym none))
walk_same (x ∷ first) [] none = absurd (none-some (First, x) (sym none))
walk_same (x ∷ first) (y ∷ second) none = by (record_cmp x y) refl none (λ rest. walk_same first second rest)
  where
    by : (o : Ordering) → record_cmp x y ≡ o → match_ordering o (Some (First, x)) (first_unequal first second) (Some (Second, y)) ≡ None → (first_unequal first second ≡ None → first ≡ second) → x ∷ first ≡ y ∷ second
    by Less e bad later = absurd (none-some (First, x) (sym bad))
    by Equal e rest later = let head = record_cmp_exact x y e in let tail = later rest in cc
    by Greater e bad later = absurd (none-some (Second, y) (sym bad))

-- so what the walk over the rows of two sets finds is said by their difference
pub walked : (stream replica : ℕ) (first second seen other : List Row) → seen ≡ first → other ≡ second → IsRowSet first → IsRowSet second → (o : Option (Which × Row)) → o ≡ first_unequal seen other
    → option_map (said stream replica) o ≡ difference_at stream replica first second
walked stream replica first second seen other one two s t o e =
    ap (option_map (said stream replica)) (e ∙ ap (λ rows. first_unequal rows other) one ∙ ap (first_unequal first) two) ∙ sym (walk_is stream replica first second s t)
