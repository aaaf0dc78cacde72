-- What Number keeps and puts out, by the map of its numbers.
use Rattle.std.proofs.Common.{◌≡◌, ℕ, ℤ, pos, zero, suc, ◌+◌, ◌-◌, ◌<◌, Bool, true, false, cond, not, List, [], ◌∷◌, ◌++◌, length, get_or, take, map, filter, Option, Some, None, is_some, refl, ap, ◌∙◌, sym, subst, inl, inr, arith, append_assoc, length-append, Bor}
use Rattle.std.specs.Ordering.{is_eq, eq_by_cmp}
use Rattle.std.specs.declared.cmp.Ordering.TheVariants.{Less}
use Rattle.std.specs.List.{list_any, enumerate_from}
use Rattle.std.specs.List.Sorted.{IsStrictlySortedBy}
use Rattle.std.specs.Cmp.{tied_itself}
use Rattle.std.specs.BTreeMap.{BTreeMap, get, is_at, IsOrdered, btree_map_len}
use Rattle.std.proofs.Math.Seq.{take-append_seam}
use Rattle.std.proofs.lemmas.List.{take_more, append-nil, map-append, length-map, length-take}
use Rattle.std.proofs.lemmas.List.Elements.{filter_agree}
use Rattle.std.proofs.lemmas.List.Kept.{IsStrictlySortedBy-filter}
use Rattle.std.proofs.lemmas.Map.Views.{All-found, Contains-from_lookup}
use Rattle.blz_value.specs.declared.value.Value.TheVariants.{Int}
use Rattle.blz_value.specs.Members.{Has}
use Rattle.blz_value.specs.Record.{Row, record_cmp}
use Rattle.blz_value.specs.RecordOrder.{record_cmp_total, record_cmp_exact}
use Rattle.blz_value.specs.Sets.{set_of, IsRowSet}
use Rattle.blz_value.proofs.Membership.{Has-get_or, Has-map, Has-from_map, Has-append_left, Has-append_right, Has-append_cases, Has-from_filter, any_from_Has, Has-from_any, Has-from_Contains, All-of_member}
use Rattle.blz_value.proofs.SetLemmas.{all_has, below_not_in}
use Rattle.blz_value.proofs.SetLaws.{Has-set_of, Has-from_set_of, sorted_set_of}
use Rattle.blz_value.proofs.RowSets.{same_set_of, set_of-sorted, set_of-append_set, length-insert_key-new, length-set_of-append_right}
use Rattle.std.specs.Prelude.{Result, Err}
use Rattle.std.specs.Result.{IsErrAnd}
use Rattle.blz_set.specs.RecordSet.{row_limit}
use Rattle.blz_set.specs.Answers.{Gives}
use Rattle.blz_set.specs.declared.fault.SetFault.{SetFault}
use Rattle.blz_set.specs.declared.fault.SetFault.TheVariants as sets
use Rattle.bloom_eval.specs.declared.fault.StepFault.{StepFault}
use Rattle.bloom_eval.specs.declared.fault.StepFault.TheVariants as steps
use Rattle.bloom_eval.specs.StepAnswers.{step_fault}
use Rattle.blz_set.specs.References.{shown}
use Rattle.blz_set.proofs.Runs.{same_row}
use Rattle.bloom_forms.specs.StockSteps.{is_numbered, numbered, number_kept, number_out}
use Rattle.blz_boxes.specs.Code.Numbers.{with_number, numbered_records, numbered_from}
use Rattle.blz_value.proofs.Enumerated.{enumerate_from-push}
use Rattle.blz_boxes.proofs.Records.{count_entries}

-- an entry as a record with its number
abbrev pub entry_row : Row × ℤ → Row
entry_row entry = with_number entry.0 entry.1

-- a record without its last value
abbrev front : Row → Row
front row = take (length row - 1) row

front_is : (row : Row) (n : ℤ) → front (with_number row n) ≡ row
front_is row n = ap (λ k. take k (row ++ Int n ∷ [])) (omega (arith, length-append row (Int n ∷ []))) ∙ take-append_seam row (Int n ∷ [])

-- ---- the entries, by their keys

entry_found : (m : BTreeMap Row ℤ) → IsOrdered record_cmp m → (e : Row × ℤ) → Has e m.entries → get record_cmp m e.0 ≡ Some e.1
entry_found m ordered e h = All-of_member (λ (e : Row × ℤ). get record_cmp m e.0 ≡ Some e.1) m.entries e (All-found record_cmp_total m ordered) h

entry_there : (m : BTreeMap Row ℤ) (key : Row) (n : ℤ) → get record_cmp m key ≡ Some n → Has (key, n) m.entries
entry_there m key n found = Has-from_Contains m.entries (key, n) (Contains-from_lookup {eq = eq_by_cmp record_cmp} same_row key n m.entries found)

-- whether a record is kept
pub is_kept : (m : BTreeMap Row ℤ) → IsOrdered record_cmp m → (row : Row) → is_numbered (numbered_records m) row ≡ is_some (get record_cmp m row)
is_kept m ordered row = by_case (get record_cmp m row) refl
  where
    is_it : Row → Bool
    is_it held = eq_by_cmp record_cmp (front held) row

    none : (b : Bool) → list_any is_it (numbered_records m) ≡ b → get record_cmp m row ≡ None → b ≡ false
    none false found e = refl
    none true found e =
        let held = Has-from_any is_it (numbered_records m) found in
        let entry = Has-from_map entry_row held.0 m.entries (Has-from_set_of held.0 (map entry_row m.entries) held.1) in
        let key : entry.0.0 ≡ row = sym (front_is entry.0.0 entry.0.1) ∙ ap front entry.2 ∙ same_row (front held.0) row held.2 in
        let there : get record_cmp m row ≡ Some entry.0.1 = subst (λ k. get record_cmp m k ≡ Some entry.0.1) key (entry_found m ordered entry.0 entry.1) in
        cc

    by_case : (o : Option ℤ) → get record_cmp m row ≡ o → list_any is_it (numbered_records m) ≡ is_some o
    by_case None e = none (list_any is_it (numbered_records m)) refl e
    by_case (Some n) e =
        any_from_Has is_it (with_number row n) (numbered_records m) (Has-set_of (with_number row n) (map entry_row m.entries) (Has-map entry_row (row, n) m.entries (entry_there m row n e)))
        (ap (λ k. is_eq (record_cmp k row)) (front_is row n) ∙ ap is_eq (tied_itself record_cmp_total row))

-- as many records as entries
pub count_numbers : (m : BTreeMap Row ℤ) → IsOrdered record_cmp m → length (numbered_records m) ≡ btree_map_len m
count_numbers m ordered = count_entries front entry_row m.entries ordered (λ e h. sym (front_is e.0 e.1))

-- ---- one record more

numbered_from-push : (first : ℕ) (rows : List Row) (row : Row) → numbered_from first (rows ++ row ∷ []) ≡ numbered_from first rows ++ with_number row (pos (first + length rows)) ∷ []
numbered_from-push first rows row =
    let number : ℕ × Row → Row = λ pair. with_number pair.1 (pos pair.0) in
    ap (map number) (enumerate_from-push first rows row) ∙ map-append number (enumerate_from first rows) ((first + length rows, row) ∷ [])

module _ (row : Row) (n : ℤ) (old new : BTreeMap Row ℤ) (updates : (q : Row) → get record_cmp new q ≡ cond (is_at (record_cmp row) q) (Some n) (get record_cmp old q)) (ordered_old : IsOrdered record_cmp old) (ordered_new : IsOrdered record_cmp new) (absent : get record_cmp old row ≡ None) where
  entries_from : (r : Row) → Has r (map entry_row new.entries) → Has r (map entry_row old.entries ++ with_number row n ∷ [])
  entries_from r h = by_case (is_eq (record_cmp row entry.0.0)) refl (sym (updates entry.0.0) ∙ entry_found new ordered_new entry.0 entry.1)
    where
      entry : (e : Row × ℤ) × Has e new.entries × (entry_row e ≡ r)
      entry = Has-from_map entry_row r new.entries h

      by_case : (b : Bool) → is_eq (record_cmp row entry.0.0) ≡ b → cond b (Some n) (get record_cmp old entry.0.0) ≡ Some entry.0.1 → Has r (map entry_row old.entries ++ with_number row n ∷ [])
      by_case true at e =
          let number : n ≡ entry.0.1 = cc in
          Has-append_right r (map entry_row old.entries) (with_number row n ∷ []) (inl (ap (λ k. with_number k n) (same_row row entry.0.0 at) ∙ ap (λ k. with_number entry.0.0 k) number ∙ entry.2))
      by_case false at e =
          Has-append_left r (map entry_row old.entries) (with_number row n ∷ []) (subst (λ z. Has z (map entry_row old.entries)) entry.2 (Has-map entry_row entry.0 old.entries (entry_there old entry.0.0 entry.0.1 e)))

  entries_to : (r : Row) → Has r (map entry_row old.entries ++ with_number row n ∷ []) → Has r (map entry_row new.entries)
  entries_to r h = elim (Has-append_cases r (map entry_row old.entries) (with_number row n ∷ []) h) [
    | inl before ↦
        let entry = Has-from_map entry_row r old.entries before in
        subst (λ z. Has z (map entry_row new.entries)) entry.2 (Has-map entry_row entry.0 new.entries (still entry.0 (entry_found old ordered_old entry.0 entry.1)))
    | inr last ↦ elim last [
      | inl e ↦ subst (λ z. Has z (map entry_row new.entries)) e (Has-map entry_row (row, n) new.entries (entry_there new row n (updates row ∙ ap (λ b. cond b (Some n) (get record_cmp old row)) (ap is_eq (tied_itself record_cmp_total row)))))
      | inr none ↦ absurd none
    ]
  ]
    where
      still_case : (e : Row × ℤ) (b : Bool) → is_eq (record_cmp row e.0) ≡ b → get record_cmp old e.0 ≡ Some e.1 → Has e new.entries
      still_case e true at found = let other : get record_cmp old row ≡ Some e.1 = ap (get record_cmp old) (same_row row e.0 at) ∙ found in absurd cc
      still_case e false at found = entry_there new e.0 e.1 (updates e.0 ∙ ap (λ b. cond b (Some n) (get record_cmp old e.0)) at ∙ found)

      still : (e : Row × ℤ) → get record_cmp old e.0 ≡ Some e.1 → Has e new.entries
      still e found = still_case e (is_eq (record_cmp row e.0)) refl found

-- a map stands for another, after new records got the numbers from the first one on
pub record StandsFor (old : BTreeMap Row ℤ) (first : ℕ) (rows : List Row) (new : BTreeMap Row ℤ) : Type 0 where
  pub ordered : IsOrdered record_cmp new
  pub keys : (q : Row) → get record_cmp old q ≡ None → ¬ Has q rows → get record_cmp new q ≡ None
  pub kept : numbered_records new ≡ set_of (numbered_records old ++ numbered_from first rows)

pub stands_first : (old : BTreeMap Row ℤ) (first : ℕ) → IsOrdered record_cmp old → StandsFor old first [] old
stands_first old first ordered = record {
  ordered = ordered;
  keys = λ q none lacks. none;
  kept = sym (ap set_of (append-nil (numbered_records old)) ∙ set_of-sorted (numbered_records old) (sorted_set_of (map entry_row old.entries)));
}

stands_more : (old m new : BTreeMap Row ℤ) (first : ℕ) (rows : List Row) (row : Row) (n : ℤ) → StandsFor old first rows m → n ≡ pos (first + length rows) → get record_cmp m row ≡ None → ((q : Row) → get record_cmp new q ≡ cond (is_at (record_cmp row) q) (Some n) (get record_cmp m q)) → IsOrdered record_cmp new → StandsFor old first (rows ++ row ∷ []) new
stands_more old m new first rows row n stands number absent updates ordered = record {
  ordered = ordered;
  keys = λ q none lacks. updates q ∙ not_here q lacks (is_eq (record_cmp row q)) refl ∙ stands.keys q none (λ h. lacks (Has-append_left q rows (row ∷ []) h));
  kept =
      same_set_of (map entry_row new.entries) (map entry_row m.entries ++ with_number row n ∷ []) (entries_from row n m new updates stands.ordered ordered absent, entries_to row n m new updates stands.ordered ordered absent)
      ∙ sym (set_of-append_set (map entry_row m.entries) (with_number row n ∷ []))
      ∙ ap (λ l. set_of (l ++ with_number row n ∷ [])) stands.kept
      ∙ set_of-append_set (numbered_records old ++ numbered_from first rows) (with_number row n ∷ [])
      ∙ ap set_of (append_assoc (numbered_records old) (numbered_from first rows) (with_number row n ∷ []) ∙ ap (λ k. numbered_records old ++ (numbered_from first rows ++ with_number row k ∷ [])) number ∙ ap (λ l. numbered_records old ++ l) (sym (numbered_from-push first rows row)));
}
  where
    not_here : (q : Row) → ¬ Has q (rows ++ row ∷ []) → (b : Bool) → is_eq (record_cmp row q) ≡ b → cond (is_eq (record_cmp row q)) (Some n) (get record_cmp m q) ≡ get record_cmp m q
    not_here q lacks true at = absurd (lacks (Has-append_right q rows (row ∷ []) (inl (same_row row q at))))
    not_here q lacks false at = ap (λ b. cond b (Some n) (get record_cmp m q)) at

-- a record of a set isn't among those before it
not_before : (refs : List (Bor Row)) (i : ℕ) (d : Bor Row) → IsRowSet (shown refs) → i < length refs → ¬ Has (get_or refs i d).now (shown (take i refs))
unfolding IsStrictlySortedBy
not_before [] i d sorted lt h = omega (arith, lt)
not_before (r ∷ refs) zero d sorted lt h = h
not_before (r ∷ refs) (suc i) d sorted lt (inl e) =
    let row = (get_or refs i d).now in
    let less : record_cmp r.now row ≡ Less = all_has (λ y. record_cmp r.now y ≡ Less) row (shown refs) sorted.0 (Has-map (λ (r : Bor Row). r.now) (get_or refs i d) refs (Has-get_or refs i d (omega (arith, lt)))) in
    let tied = tied_itself record_cmp_total row in
    let same : record_cmp row row ≡ Less = ap (λ k. record_cmp k row) (sym e) ∙ less in
    cc
not_before (r ∷ refs) (suc i) d sorted lt (inr h) = not_before refs i d sorted.1 (omega (arith, lt)) h

pub stands_at : (old m new : BTreeMap Row ℤ) (first : ℕ) (refs : List (Bor Row)) (i : ℕ) (d : Bor Row) (copy : Row) (n : ℤ) → i < length refs → IsRowSet (shown refs) → ((row : Row) → Has row (shown refs) → get record_cmp old row ≡ None) → StandsFor old first (shown (take i refs)) m → copy ≡ (get_or refs i d).now → n ≡ pos (first + i) → ((q : Row) → get record_cmp new q ≡ cond (is_at (record_cmp copy) q) (Some n) (get record_cmp m q)) → IsOrdered record_cmp new → StandsFor old first (shown (take (i + 1) refs)) new
stands_at old m new first refs i d copy n lt sorted fresh stands is_copy number updates ordered =
    let row = (get_or refs i d).now in
    let among : Has row (shown refs) = Has-map (λ (r : Bor Row). r.now) (get_or refs i d) refs (Has-get_or refs i d lt) in
    let absent : get record_cmp m copy ≡ None = ap (get record_cmp m) is_copy ∙ stands.keys row (fresh row among) (not_before refs i d sorted lt) in
    let count : n ≡ pos (first + length (shown (take i refs))) = number ∙ ap (λ k. pos (first + k)) (omega (arith, length-map (take i refs) (λ r. r.now), length-take i refs, lt)) in
    let taken : shown (take i refs) ++ copy ∷ [] ≡ shown (take (i + 1) refs) = ap (λ k. shown (take i refs) ++ k ∷ []) is_copy ∙ sym (ap shown (take_more refs i d lt) ∙ map-append (λ r. r.now) (take i refs) (get_or refs i d ∷ [])) in
    subst (λ rows. StandsFor old first rows new) taken (stands_more old m new first (shown (take i refs)) copy n stands count absent updates ordered)

pub numbered_more : (first : ℕ) (refs : List (Bor Row)) (i : ℕ) (d : Bor Row) → i < length refs → numbered_from first (shown (take (i + 1) refs)) ≡ numbered_from first (shown (take i refs)) ++ with_number (get_or refs i d).now (pos (first + i)) ∷ []
numbered_more first refs i d lt =
    ap (numbered_from first) (ap shown (take_more refs i d lt) ∙ map-append (λ r. r.now) (take i refs) (get_or refs i d ∷ []))
    ∙ numbered_from-push first (shown (take i refs)) (get_or refs i d).now
    ∙ ap (λ k. numbered_from first (shown (take i refs)) ++ with_number (get_or refs i d).now (pos (first + k)) ∷ []) (omega (arith, length-map (take i refs) (λ r. r.now), length-take i refs, lt))

-- ---- a step

-- the records that are new
abbrev pub fresh_of : BTreeMap Row ℤ → List Row → List Row
fresh_of m rows = filter (λ row. not (is_some (get record_cmp m row))) rows

numbered_is : (m : BTreeMap Row ℤ) (rows : List Row) → IsOrdered record_cmp m → IsRowSet rows → numbered (numbered_records m) rows ≡ numbered_from (btree_map_len m + 1) (fresh_of m rows)
numbered_is m rows ordered sorted =
    ap (λ l. numbered_from (length (numbered_records m) + 1) (filter (λ row. not (is_numbered (numbered_records m) row)) l)) (set_of-sorted rows sorted)
    ∙ ap (numbered_from (length (numbered_records m) + 1)) (filter_agree (λ row. not (is_numbered (numbered_records m) row)) (λ row. not (is_some (get record_cmp m row))) (λ row. ap not (is_kept m ordered row)) rows)
    ∙ ap (λ n. numbered_from (n + 1) (fresh_of m rows)) (count_numbers m ordered)

-- the same of the records and the count that the code has
pub numbered_by : (m : BTreeMap Row ℤ) (rows found : List Row) (count : ℕ) → IsOrdered record_cmp m → IsRowSet rows → found ≡ fresh_of m rows → count ≡ btree_map_len m → numbered_from (count + 1) found ≡ numbered (numbered_records m) rows
numbered_by m rows found count ordered sorted is_fresh is_count =
    ap (numbered_from (count + 1)) is_fresh ∙ ap (λ n. numbered_from (n + 1) (fresh_of m rows)) is_count ∙ sym (numbered_is m rows ordered sorted)

pub fresh_sorted : (m : BTreeMap Row ℤ) (rows : List Row) → IsRowSet rows → IsRowSet (fresh_of m rows)
fresh_sorted m rows sorted = IsStrictlySortedBy-filter record_cmp (λ row. not (is_some (get record_cmp m row))) rows sorted

pub fresh_absent : (m : BTreeMap Row ℤ) (rows : List Row) (row : Row) → Has row (fresh_of m rows) → get record_cmp m row ≡ None
fresh_absent m rows row h = by_case (get record_cmp m row) refl (Has-from_filter (λ row. not (is_some (get record_cmp m row))) row rows h).1
  where
    by_case : (o : Option ℤ) → get record_cmp m row ≡ o → not (is_some o) ≡ true → get record_cmp m row ≡ None
    by_case None e passes = e
    by_case (Some n) e passes = cc

numbered_has : (first : ℕ) (rows : List Row) (r : Row) → Has r (numbered_from first rows) → Has (front r) rows
numbered_has first [] r h = absurd h
numbered_has first (row ∷ rows) r (inl e) = inl (sym (front_is row (pos first)) ∙ ap front e)
numbered_has first (row ∷ rows) r (inr h) = inr (numbered_has (first + 1) rows r h)

count_apart : (kept : List Row) (first : ℕ) (rows : List Row) → IsRowSet kept → IsRowSet rows → ((row : Row) (n : ℤ) → Has row rows → ¬ Has (with_number row n) kept) → length (set_of (kept ++ numbered_from first rows)) ≡ length kept + length rows
unfolding IsStrictlySortedBy
count_apart kept first [] sorted up apart = ap (λ l. length {A = Row} (set_of l)) (append-nil kept) ∙ ap (length {A = Row}) (set_of-sorted kept sorted) ∙ omega arith
count_apart kept first (row ∷ rows) sorted up apart =
    let last = with_number row (pos first) in
    let others = numbered_from (first + 1) rows in
    let new : ¬ Has last (set_of (kept ++ others)) = λ h. elim (Has-append_cases last kept others (Has-from_set_of last (kept ++ others) h)) [
      | inl a ↦ apart row (pos first) (inl refl) a
      | inr b ↦ below_not_in record_cmp record_cmp_total row rows up.0 (subst (λ z. Has z rows) (front_is row (pos first)) (numbered_has (first + 1) rows last b))
    ] in
    let moved : set_of (kept ++ last ∷ others) ≡ set_of (last ∷ (kept ++ others)) = same_set_of (kept ++ last ∷ others) (last ∷ (kept ++ others)) (
      λ q h. elim (Has-append_cases q kept (last ∷ others) h) [ inl a ↦ inr (Has-append_left q kept others a) | inr b ↦ elim b [ inl e ↦ inl e | inr c ↦ inr (Has-append_right q kept others c) ] ],
      λ q h. elim h [ inl e ↦ Has-append_right q kept (last ∷ others) (inl e) | inr m ↦ elim (Has-append_cases q kept others m) [ inl a ↦ Has-append_left q kept (last ∷ others) a | inr c ↦ Has-append_right q kept (last ∷ others) (inr c) ] ],
    ) in
    omega (arith, ap (length {A = Row}) moved, length-insert_key-new record_cmp record_cmp_exact last (set_of (kept ++ others)) new, count_apart kept (first + 1) rows sorted up.1 (λ r n h. apart r n (inr h)))

-- how many records Number keeps
pub count_kept : (m : BTreeMap Row ℤ) (rows : List Row) → IsOrdered record_cmp m → IsRowSet rows → length (number_kept (numbered_records m) rows) ≡ btree_map_len m + length (fresh_of m rows)
count_kept m rows ordered sorted =
    ap (λ l. length {A = Row} (set_of (numbered_records m ++ l))) (numbered_is m rows ordered sorted)
    ∙ count_apart (numbered_records m) (btree_map_len m + 1) (fresh_of m rows) (sorted_set_of (map entry_row m.entries)) (fresh_sorted m rows sorted) apart
    ∙ ap (λ n. n + length (fresh_of m rows)) (count_numbers m ordered)
  where
    apart : (row : Row) (n : ℤ) → Has row (fresh_of m rows) → ¬ Has (with_number row n) (numbered_records m)
    apart row n h held =
        let is_it : Row → Bool = λ other. eq_by_cmp record_cmp (front other) row in
        let found : list_any is_it (numbered_records m) ≡ true = any_from_Has is_it (with_number row n) (numbered_records m) held (ap (λ k. is_eq (record_cmp k row)) (front_is row n) ∙ ap is_eq (tied_itself record_cmp_total row)) in
        let kept = is_kept m ordered row in
        let none = ap is_some (fresh_absent m rows row h) in
        cc

-- a set that is too large makes the step's fault
pub over_from : (X : Type 0) (r : Result X StepFault) (fault : SetFault) (rows all : List Row) → IsErrAnd r (λ d. d ≡ step_fault fault) → Gives rows (Err fault) → (row_limit < length rows → row_limit < length all) → r ≡ Err steps.TooManyRows → row_limit < length all
over_from X r sets.TooManyRows rows all handed gives more is = more gives
over_from X r sets.NoMemory rows all handed gives more is =
    let other : steps.TooManyRows ≡ steps.NoMemory = subst (λ (x : Result X StepFault). IsErrAnd x (λ d. d ≡ steps.NoMemory)) is handed in
    absurd cc

-- what is put out is no larger than what is kept
pub out_within : (kept rows : List Row) → row_limit < length (number_out kept rows) → row_limit < length (number_kept kept rows)
out_within kept rows over = omega (arith, over, length-set_of-append_right kept (numbered kept rows))
