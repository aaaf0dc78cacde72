-- The union of two sets.
use Rattle.std.proofs.Common.{◌≡◌, ◌+◌, ◌<◌, ◌≤◌, get_or, arith, Bor, not, Bool, true, false, List, [], ◌∷◌, ◌++◌, length, Result, Err, IsErrAnd, Ok, refl, ap, ◌∙◌, sym, subst, inl, inr, ◌⊎◌}
use Rattle.std.proofs.lemmas.List.Kept.{IsStrictlySortedBy-filter}
use Rattle.blz_value.specs.Members.{Has}
use Rattle.blz_value.specs.Record.{Row, record_cmp}
use Rattle.blz_value.specs.Sets.{set_of, IsRowSet}
use Rattle.blz_value.proofs.Membership.{Has-append_left, Has-append_right, Has-append_cases, Has-filter, Has-from_filter}
use Rattle.blz_value.proofs.RowSets.{same_set_of, set_of-push, length-set_of-disjoint}
use Rattle.blz_set.specs.RecordSet.{row_limit}
use Rattle.blz_set.specs.Missing.{has_row, missing_from}
use Rattle.blz_set.specs.References.{shown}
use Rattle.blz_set.specs.Answers.{Becomes}
use Rattle.blz_set.specs.declared.fault.SetFault.{SetFault}
use Rattle.blz_set.specs.declared.fault.SetFault.TheVariants.{TooManyRows, NoMemory}
use Rattle.blz_set.proofs.RecordSets.{Has-from_has_row, has_row-from_Has}

not_both : (b : Bool) → not b ≡ true → ¬ (b ≡ true)
not_both true e f = cc
not_both false e f = cc

one_of_both : (b : Bool) → (b ≡ true) ⊎ (not b ≡ true)
one_of_both true = inl refl
one_of_both false = inr refl

module _ (rows others : List Row) where
  -- none of the missing rows is there
  pub missing_apart : (q : Row) → Has q rows → ¬ Has q (missing_from rows others)
  missing_apart q h m = not_both (has_row rows q) (Has-from_filter (λ row. not (has_row rows row)) q others m).1 (has_row-from_Has rows q h)

  -- they are sorted as the others are
  pub missing_sorted : IsRowSet others → IsRowSet (missing_from rows others)
  missing_sorted t = IsStrictlySortedBy-filter record_cmp (λ row. not (has_row rows row)) others t

  -- the missing rows make the union
  pub union_missing : set_of (rows ++ missing_from rows others) ≡ set_of (rows ++ others)
  union_missing =
      same_set_of (rows ++ missing_from rows others) (rows ++ others) (
        λ q h. elim (Has-append_cases q rows (missing_from rows others) h) [
          | inl a ↦ Has-append_left q rows others a
          | inr b ↦ Has-append_right q rows others (Has-from_filter (λ row. not (has_row rows row)) q others b).0
        ],
        λ q h. elim (Has-append_cases q rows others h) [
          | inl a ↦ Has-append_left q rows (missing_from rows others) a
          | inr b ↦ elim (one_of_both (has_row rows q)) [
            | inl e ↦ Has-append_left q rows (missing_from rows others) (Has-from_has_row rows q e)
            | inr e ↦ Has-append_right q rows (missing_from rows others) (Has-filter (λ row. not (has_row rows row)) q others b e)
          ]
        ],
      )

  pub length_union : IsRowSet rows → IsRowSet others → length (set_of (rows ++ others)) ≡ length rows + length (missing_from rows others)
  length_union s t =
      ap length (sym union_missing)
      ∙ length-set_of-disjoint rows (missing_from rows others) s (missing_sorted t) missing_apart

  -- the union where one row is missing
  pub one_missing : (row : Row) → row ∷ [] ≡ missing_from rows others → set_of (row ∷ rows) ≡ set_of (rows ++ others)
  one_missing row e = sym (set_of-push row rows) ∙ ap (λ more. set_of (rows ++ more)) e ∙ union_missing

-- a slice of one reference
pub only_one : (refs : List (Bor Row)) (r : Bor Row) → 1 ≤ length refs → length refs < 2 → r ≡ get_or refs 0 r → r.now ∷ [] ≡ shown refs
only_one [] r some few e = absurd (omega arith)
only_one (s ∷ []) r some few e = ap (λ (q : Bor Row). q.now ∷ []) e
only_one (s ∷ t ∷ refs) r some few e = absurd (omega arith)

-- ---- faults that are handed on

-- the exit of a `?` that hands a fault on
pub handed_on : (X : Type 0) (r : Result X SetFault) (fault : SetFault) → IsErrAnd r (λ d. d ≡ fault) → r ≡ Err fault
handed_on X (Ok x) fault h = absurd h
handed_on X (Err d) fault h = ap Err h

-- the fault of a change to rows that are equal
pub becomes_as : (X Y : Type 0) (old rows all new : List Row) (fault : SetFault) → rows ≡ all → Becomes {X = X} old rows new (Err fault) → Becomes {X = Y} old all new (Err fault)
becomes_as X Y old rows all new TooManyRows same h = (h.0, subst (λ (l : List Row). row_limit < length l) same h.1)
becomes_as X Y old rows all new NoMemory same h = h
