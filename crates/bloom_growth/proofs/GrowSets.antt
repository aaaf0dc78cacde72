-- A set that takes rows: what it becomes, and which of them are new.
use Rattle.std.proofs.Common.{◌≡◌, ℕ, zero, suc, ◌+◌, ◌<◌, ◌≤◌, Bool, true, false, not, cond, List, [], ◌∷◌, ◌++◌, length, get_or, take, drop, take-append-drop, Result, Ok, Err, refl, ap, ◌∙◌, sym, subst, inl, inr, arith, append_assoc}
use Rattle.std.specs.List.Sorted.{IsStrictlySortedBy}
use Rattle.std.specs.BTreeSet.{insert_key}
use Rattle.std.proofs.lemmas.List.{take_more, append-nil}
use Rattle.std.proofs.lemmas.List.Kept.{IsStrictlySortedBy-filter}
use Rattle.blz_value.specs.Members.{Has}
use Rattle.blz_value.specs.Record.{Row, record_cmp}
use Rattle.blz_value.specs.RecordOrder.{record_cmp_total}
use Rattle.blz_value.specs.Sets.{set_of, IsRowSet}
use Rattle.blz_value.proofs.RowSets.{set_of-push, set_of-sorted, length-set_of-append_left}
use Rattle.blz_value.proofs.SetLaws.{sorted_set_of, Has-set_of, Has-from_set_of}
use Rattle.blz_value.proofs.SetLemmas.{below_not_in}
use Rattle.blz_set.specs.Answers.{Gives}
use Rattle.blz_set.specs.RecordSet.{row_limit, IsRecordSet}
use Rattle.blz_set.specs.Missing.{has_row, missing_from}
use Rattle.blz_set.specs.declared.fault.SetFault.{SetFault}
use Rattle.blz_set.specs.declared.fault.SetFault.TheVariants.{TooManyRows, NoMemory}
use Rattle.blz_value.proofs.Membership.{Has-from_filter, Has-append_left, Has-append_right, Has-append_cases, Has-get_or}
use Rattle.blz_value.proofs.OperatorsLemmas.{not_any}
use Rattle.blz_set.proofs.RecordSets.{has_row-from_Has, has_row-from_lacks, filter_step}
use Rattle.blz_set.proofs.Unions.{union_missing, length_union}
use Rattle.bloom_growth.specs.Growth.{Takes, TakesRow}

-- one row more
pub put_more : (old rows set new : List Row) (i : ℕ) (row copy : Row) → i < length rows → row ≡ get_or rows i row → copy ≡ row
    → set ≡ set_of (old ++ take i rows) → new ≡ insert_key record_cmp set copy → new ≡ set_of (old ++ take (i + 1) rows)
put_more old rows set new i row copy lt is same e put =
    put ∙ ap (insert_key record_cmp set) same ∙ ap (λ (s : List Row). insert_key record_cmp s row) e
    ∙ sym (set_of-push row (old ++ take i rows)) ∙ ap set_of (append_assoc old (take i rows) (row ∷ []))
    ∙ ap (λ (r : Row). set_of (old ++ (take i rows ++ r ∷ []))) is ∙ ap (λ (l : List Row). set_of (old ++ l)) (sym (take_more rows i row lt))

pub missing_sorted : (old rows : List Row) → IsRowSet rows → IsRowSet (missing_from old rows)
missing_sorted old rows sorted = IsStrictlySortedBy-filter record_cmp _ rows sorted

-- none of the missing rows is there
pub missing_apart : (old rows : List Row) (row : Row) → Has row old → ¬ Has row (missing_from old rows)
missing_apart old rows row held m = not_any (has_row old row) (Has-from_filter (λ (r : Row). not (has_row old r)) row rows m).1 (has_row-from_Has old row held)

-- a row of a sorted list is not among those before it
pub not_before : (xs : List Row) (i : ℕ) (row : Row) → IsRowSet xs → i < length xs → row ≡ get_or xs i row → ¬ Has row (take i xs)
unfolding IsStrictlySortedBy
not_before [] i row sorted lt is h = absurd (omega arith)
not_before (x ∷ xs) zero row sorted lt is h = h
not_before (x ∷ xs) (suc i) row sorted lt is h = elim h [
  | inl e ↦ below_not_in record_cmp record_cmp_total x xs sorted.0 (subst (λ (r : Row). Has r xs) (sym (e ∙ is)) (Has-get_or xs i row (omega arith)))
  | inr m ↦ not_before xs i row sorted.1 (omega arith) is m
]

-- a set with one row more of a list
pub set_more : (old rows : List Row) (i : ℕ) (row copy : Row) → i < length rows → row ≡ get_or rows i row → copy ≡ row
    → set_of (copy ∷ set_of (old ++ take i rows)) ≡ set_of (old ++ take (i + 1) rows)
set_more old rows i row copy lt is same =
    let all = set_of (old ++ take i rows) in
    put_more old rows all (set_of (copy ∷ all)) i row copy lt is same refl (ap (λ (l : List Row). insert_key record_cmp l copy) (set_of-sorted all (sorted_set_of (old ++ take i rows))))

module _ (old rows : List Row) (own : IsRecordSet old) (set : IsRecordSet rows) where
  -- the missing rows are the new ones
  pub takes_ok : (fresh new : List Row) → fresh ≡ set_of (missing_from old rows) → new ≡ set_of (old ++ rows) → length new ≤ row_limit → Takes old rows new (Ok fresh)
  takes_ok fresh new e is few =
      let fresh_is : fresh ≡ missing_from old rows = e ∙ set_of-sorted (missing_from old rows) (missing_sorted old rows set.sorted) in (
        is,
        few,
        record {
          sorted = own.sorted;
          fresh_sorted = subst IsRowSet (sym fresh_is) (missing_sorted old rows set.sorted);
          all = is ∙ sym (union_missing old rows) ∙ ap (λ (l : List Row). set_of (old ++ l)) (sym fresh_is);
          apart = λ row h held. missing_apart old rows row held (subst (λ (l : List Row). Has row l) fresh_is h);
        },
      )

  module _ (now next : List Row) (i : ℕ) (row : Row) (lt : i < length rows) (at : row ≡ get_or rows i row) (so_far : now ≡ set_of (old ++ take i rows)) where
    with_row : set_of (now ++ row ∷ []) ≡ set_of (old ++ take (i + 1) rows)
    with_row = ap (λ (l : List Row). set_of (l ++ row ∷ [])) so_far ∙ set_of-push row (set_of (old ++ take i rows)) ∙ set_more old rows i row row lt at refl

    -- a row is new where it was not there at the beginning
    new_is : (added : Bool) → TakesRow now row next (Ok added) → not (has_row old row) ≡ added
    new_is true takes = ap not (has_row-from_lacks old row (λ h. takes.2.apart row (inl refl) (subst (λ (l : List Row). Has row l) (sym so_far) (Has-set_of row (old ++ take i rows) (Has-append_left row old (take i rows) h)))))
    new_is false takes =
        let same : set_of (now ++ row ∷ []) ≡ set_of (now ++ []) = sym takes.0 ∙ takes.2.all in
        let held : Has row (set_of (now ++ [])) = subst (λ (l : List Row). Has row l) same (Has-set_of row (now ++ row ∷ []) (Has-append_right row now (row ∷ []) (inl refl))) in
        let within : Has row now = subst (λ (l : List Row). Has row l) (append-nil now) (Has-from_set_of row (now ++ []) held) in
        ap not (has_row-from_Has old row (elim (Has-append_cases row old (take i rows) (Has-from_set_of row (old ++ take i rows) (subst (λ (l : List Row). Has row l) so_far within))) [
          | inl a ↦ a
          | inr b ↦ absurd (not_before rows i row set.sorted lt at b)
        ]))

    -- one row more
    pub takes_more : (added : Bool) → TakesRow now row next (Ok added) → (next ≡ set_of (old ++ take (i + 1) rows)) × (missing_from old (take (i + 1) rows) ≡ missing_from old (take i rows) ++ cond added (row ∷ []) [])
    takes_more added takes = (takes.0 ∙ with_row, filter_step (λ (r : Row). not (has_row old r)) rows i row lt at added (new_is added takes))

    -- a fault at a row
    pub takes_none : (new : List Row) (fault : SetFault) → TakesRow now row next (Err fault) → Takes old rows new (Err fault)
    takes_none new TooManyRows over =
        let whole = ap (λ (l : List Row). length (set_of l)) (append_assoc old (take (i + 1) rows) (drop (i + 1) rows) ∙ ap (λ (l : List Row). old ++ l) (take-append-drop (i + 1) rows)) in
        omega (arith, over, ap (length {A = Row}) with_row, whole, length-set_of-append_left (old ++ take (i + 1) rows) (drop (i + 1) rows))
    takes_none new NoMemory h = tt

-- a fault in finding the new rows
pub takes_fault : (old rows new : List Row) (fault : SetFault) → IsRecordSet old → IsRecordSet rows → Gives (set_of (missing_from old rows)) (Err fault) → Takes old rows new (Err fault)
takes_fault old rows new TooManyRows own set over =
    omega (arith, over, ap length (set_of-sorted (missing_from old rows) (missing_sorted old rows set.sorted)), length_union old rows own.sorted set.sorted)
takes_fault old rows new NoMemory own set h = tt

-- what the missing rows are as a set is the answer
pub takes_all : (old rows : List Row) → IsRecordSet old → IsRecordSet rows → (fresh new : List Row) → new ≡ set_of (old ++ rows) → length new ≤ row_limit → fresh ≡ missing_from old rows
    → (r : Result (List Row) SetFault) → Gives (set_of fresh) r → Takes old rows new r
takes_all old rows own set fresh new is few fresh_is (Ok made) given = takes_ok old rows own set made new (given.0 ∙ ap set_of fresh_is) is few
takes_all old rows own set fresh new is few fresh_is (Err fault) given = takes_fault old rows new fault own set (subst (λ (l : List Row). Gives (set_of l) (Err fault)) fresh_is given)
