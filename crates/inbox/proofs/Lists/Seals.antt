-- Each seal of an emitted list counts the records of its partition before it, and stands after all rows of the timesteps up to a batch with which its partition was whole.
use Rattle.std.proofs.Common.{◌≡◌, refl, ap, sym, subst, ◌∙◌, ℕ, ◌<◌, Bool, true, false, List, [], ◌∷◌, ◌++◌, length, map, take, get_or, append_assoc, append-nil, inl, inr, ◌⊎◌, Option, Some, zero, suc}
use Rattle.std.specs.Prelude.{if◌then◌else◌}
use Rattle.std.specs.List.{fold, list_any}
use Rattle.std.proofs.lemmas.List.{length-map}
use Rattle.std.proofs.lemmas.List.Sums.{fold-append}
use Rattle.blz_value.specs.Members.{Has, IsWithin}
use Rattle.blz_value.specs.Record.{Row}
use Rattle.blz_value.proofs.Membership.{Has-append_left, Has-append_right, Has-append_cases}
use Rattle.bloom_forms.specs.declared.program.Program.{Program}
use Rattle.bloom_forms.specs.ProgramStep.{tables_after_step, outputs_of_step, empty_tables}
use Rattle.bloom_forms.specs.Step.{Sets, set_at}
use Rattle.topo_forms.specs.Messages.{Message, row, seal, rows_in}
use Rattle.topo_forms.specs.View.{is_order_mode}
use Rattle.messages.specs.Messages.{Batch, Entry, is_same_message, all_pairs}
use Rattle.inbox.specs.Instances.{Instance}
use Rattle.inbox.specs.Timesteps.{SetOff, is_whole, set_off, each_set_off, timesteps}
use Rattle.inbox.specs.Emission.{Kept, list_of, has_seal, count_in, with_row, with_rows, with_seal, with_seals, output_key, emit_step, emit_of, emit, first_tables, begin_life, nothing_emitted}
use Rattle.inbox.specs.Lives.{Life, Lives, all_lives, of_entry, after_life, emitted_by}
use Rattle.inbox.specs.Growth.{Continues}
use Rattle.inbox.proofs.Executions.Appending.{each_set_off-more, timesteps-more}
use Rattle.inbox.proofs.Lists.Growing.{get_or-each_by_place, emit_step-continues, emit_steps-continue, seal_all-continues}
use Rattle.inbox.specs.Folds.{rows_from}
use Rattle.inbox.proofs.Lists.Rows.{rows-with_seal, rows-with_seals, rows-emit_steps, rows_from-append, tables-emit_steps}
use Rattle.inbox.proofs.TimestepLemmas.UnderSeal.{by_end, all_pairs-more}
use Rattle.inbox.proofs.TimestepLemmas.Whole.{newly-becomes}

-- The plan: what is asked of a seal is asked where it is appended. Rows append no seal. After the
-- timesteps of a batch the seals of that batch are appended, to a list that has all rows of the
-- timesteps so far. So it goes batch by batch within a life, then life by life.

-- ---- a list with one element more

-- where a list with one element more is cut at an element, that is the new one, or the list is cut at it
pub end_cases : {X : Type 0} (xs before after : List X) (x q : X) → xs ++ x ∷ [] ≡ before ++ q ∷ after → ((xs ≡ before) × (x ≡ q)) ⊎ ((rest : List X) × (xs ≡ before ++ q ∷ rest))
end_cases [] [] after x q e = inl (refl, cc)
end_cases [] (b ∷ []) after x q e = cc
end_cases [] (b ∷ (c ∷ before)) after x q e = cc
end_cases (y ∷ ys) [] after x q e = inr (ys, let first : y ≡ q = cc in ap (λ z. z ∷ ys) first)
end_cases (y ∷ ys) (b ∷ before) after x q e =
    let first : y ≡ b = cc in
    let rest : ys ++ x ∷ [] ≡ before ++ q ∷ after = cc in
    elim (end_cases ys before after x q rest) [
      | inl both ↦ inl (cc, both.1)
      | inr more ↦ inr (more.0, cc)
    ]

-- ---- what holds of each seal of a list, with what stands before it

abbrev pub OfSeals : (List Message → Row → ℕ → Type 0) → List Message → Type 0
OfSeals P list = (before after : List Message) (key : Row) (count : ℕ) → list ≡ before ++ seal key count ∷ after → P before key count

module _ (P : List Message → Row → ℕ → Type 0) where
  pub of_none : OfSeals P []
  of_none [] after key count e = cc
  of_none (m ∷ before) after key count e = cc

  of_row : (list : List Message) (r : Row) → OfSeals P list → OfSeals P (list ++ row r ∷ [])
  of_row list r old before after key count e = elim (end_cases list before after (row r) (seal key count) e) [
    | inl new ↦ let no : row r ≡ seal key count = new.1 in cc
    | inr more ↦ old before more.0 key count more.1
  ]

  of_seal : (list : List Message) (k : Row) (n : ℕ) → OfSeals P list → P list k n → OfSeals P (list ++ seal k n ∷ [])
  of_seal list k n old new before after key count e = elim (end_cases list before after (seal k n) (seal key count) e) [
    | inl is ↦
        let keys : k ≡ key = let same : seal k n ≡ seal key count = is.1 in cc in
        let counts : n ≡ count = let same : seal k n ≡ seal key count = is.1 in cc in
        subst (λ c. P before key c) counts (subst (λ z. P before z n) keys (subst (λ l. P l k n) is.0 new))
    | inr more ↦ old before more.0 key count more.1
  ]

  of_row_if : (list : List Message) (r : Row) (b : Bool) → OfSeals P list → OfSeals P (if b then list else list ++ row r ∷ [])
  of_row_if list r true old = old
  of_row_if list r false old = of_row list r old

  pub of_rows : (list : List Message) (rows : List Row) → OfSeals P list → OfSeals P (with_rows list rows)
  of_rows list [] old = old
  of_rows list (r ∷ rows) old = of_rows (with_row list r) rows (of_row_if list r (list_any (is_same_message (row r)) list) old)

  of_seal_if : (list : List Message) (k : Row) (n : ℕ) (b : Bool) → OfSeals P list → P list k n → OfSeals P (if b then list else list ++ seal k n ∷ [])
  of_seal_if list k n true old new = old
  of_seal_if list k n false old new = of_seal list k n old new

  -- seals of partitions, where what is asked holds of each list with the same records
  pub of_seals : (places : List ℕ) (list : List Message) (keys : List Row) → OfSeals P list
      → ((other : List Message) (key : Row) → rows_in other ≡ rows_in list → Has key keys → P other key (count_in places other key)) → OfSeals P (with_seals (Some places) list keys)
  of_seals places list [] old new = old
  of_seals places list (k ∷ keys) old new =
      of_seals places (with_seal places list k) keys (of_seal_if list k (count_in places list k) (has_seal list k) old (new list k refl (inl refl)))
      (λ other key same h. new other key (same ∙ rows-with_seal places list k) (inr h))

-- ---- the course of a life

-- a partition was whole in a life, and before its seal stand as many of its records as the seal counts, and all rows of the timesteps up to some batch with which it was whole
pub record IsSealed (program : Program) (i : Instance) (output : ℕ) (places : List ℕ) (lives : List Life) (before : List Message) (key : Row) (count : ℕ) : Type 0 where
  pub counts : count_in places before key ≡ count
  pub life : Life
  pub lived : Has life lives
  pub heard : List Batch
  pub first : Continues heard life.heard
  pub whole : is_whole i (all_pairs heard) key ≡ true
  pub rows : IsWithin (rows_from program (empty_tables program) (timesteps i heard) output) (rows_in before)

module _ (program : Program) (i : Instance) (has_program : i.program ≡ Some program) (not_order : is_order_mode i.mode ≡ false) (output : ℕ) (places : List ℕ) (has_key : output_key i output ≡ Some places) (lives : List Life) where
  abbrev P : List Message → Row → ℕ → Type 0
  P = IsSealed program i output places lives

  abbrev emits : Kept → SetOff → Kept
  emits kept s = emit_of (Some program) i kept s

  steps_sealed : (kept : Kept) (nows : List Sets) → output < length kept.lists → OfSeals P (list_of kept output) → OfSeals P (list_of (fold (emit_step program) kept nows) output)
  steps_sealed kept [] within old = old
  steps_sealed kept (now ∷ nows) within old =
      let next : Kept = emit_step program kept now in
      let list : list_of next output ≡ with_rows (list_of kept output) (set_at (outputs_of_step program kept.tables now) output) =
      get_or-each_by_place (λ o l. with_rows l (set_at (outputs_of_step program kept.tables now) o)) kept.lists output [] within in
      steps_sealed next nows (subst (λ n. output < n) (sym (emit_step-continues program kept now).as_many) within)
      (subst (λ l. OfSeals P l) (sym list) (of_rows P (list_of kept output) (set_at (outputs_of_step program kept.tables now) output) old))

  -- after some batches of a life
  record Course (batches : List Batch) (kept : Kept) : Type 0 where
    long : output < length kept.lists
    tables : kept.tables ≡ fold (tables_after_step program) (empty_tables program) (timesteps i batches)
    rows : IsWithin (rows_from program (empty_tables program) (timesteps i batches) output) (rows_in (list_of kept output))
    seals : OfSeals P (list_of kept output)

  one_more : (life : Life) → Has life lives → (batches : List Batch) (batch : Batch) (kept : Kept) → Continues (batches ++ batch ∷ []) life.heard → Course batches kept → Course (batches ++ batch ∷ []) (emits kept (set_off i (all_pairs batches) batch))
  one_more life lived batches batch kept first course =
      let s : SetOff = set_off i (all_pairs batches) batch in
      let start : Sets = empty_tables program in
      let stepped : Kept = fold (emit_step program) kept s.steps in
      let longer : output < length stepped.lists = subst (λ n. output < n) (sym (emit_steps-continue program kept s.steps).as_many) course.long in
      let sealed : List Message = list_of (emits kept s) output in
      let list : sealed ≡ with_seals (output_key i output) (list_of stepped output) s.whole = get_or-each_by_place (λ o l. with_seals (output_key i o) l s.whole) stepped.lists output [] longer in
      let all_steps : timesteps i (batches ++ batch ∷ []) ≡ timesteps i batches ++ s.steps = timesteps-more i batches batch in
      let split : rows_from program start (timesteps i (batches ++ batch ∷ [])) output ≡ rows_from program start (timesteps i batches) output ++ rows_from program kept.tables s.steps output =
      ap (λ steps. rows_from program start steps output) all_steps ∙ rows_from-append program start (timesteps i batches) s.steps output
      ∙ ap (λ tables. rows_from program start (timesteps i batches) output ++ rows_from program tables s.steps output) (sym course.tables) in
      let steps_rows = rows-emit_steps program kept s.steps output course.long in
      let rows_stepped : IsWithin (rows_from program start (timesteps i (batches ++ batch ∷ [])) output) (rows_in (list_of stepped output)) = λ q h.
      steps_rows.1 q (elim (Has-append_cases q (rows_from program start (timesteps i batches) output) (rows_from program kept.tables s.steps output) (subst (λ l. Has q l) split h)) [
        | inl old ↦ Has-append_left q (rows_in (list_of kept output)) (rows_from program kept.tables s.steps output) (course.rows q old)
        | inr new ↦ Has-append_right q (rows_in (list_of kept output)) (rows_from program kept.tables s.steps output) new
      ]) in
      let rows_same : rows_in sealed ≡ rows_in (list_of stepped output) = ap rows_in list ∙ rows-with_seals (output_key i output) (list_of stepped output) s.whole in
      record {
        long = subst (λ n. output < n) (sym (seal_all-continues i s.whole stepped.lists).as_many) longer;
        tables = tables-emit_steps program kept s.steps ∙ ap (λ tables. fold (tables_after_step program) tables s.steps) course.tables
            ∙ sym (fold-append (tables_after_step program) start (timesteps i batches) s.steps) ∙ ap (fold (tables_after_step program) start) (sym all_steps);
        rows = λ q h. subst (λ l. Has q l) (sym rows_same) (rows_stepped q h);
        seals = subst (λ l. OfSeals P l) (sym (list ∙ ap (λ o. with_seals o (list_of stepped output) s.whole) has_key))
            (of_seals P places (list_of stepped output) s.whole (steps_sealed kept s.steps course.long course.seals)
            (λ other key same h. record {
              counts = refl;
              life = life;
              lived = lived;
              heard = batches ++ batch ∷ [];
              first = first;
              whole = ap (λ l. is_whole i l key) (all_pairs-more batches batch) ∙ (newly-becomes i (all_pairs batches) batch key h).after;
              rows = λ q m. subst (λ l. Has q l) (sym same) (rows_stepped q m);
            }));
      }

  emit_is : (kept : Kept) (s : SetOff) → emit i kept s ≡ emits kept s
  emit_is kept s = ap (λ p. emit_of p i kept s) has_program

  earlier_first : (batches : List Batch) (batch : Batch) (all : List Batch) → Continues (batches ++ batch ∷ []) all → Continues batches all
  earlier_first batches batch all c = record { more = batch ∷ c.more; with_more = sym (append_assoc batches (batch ∷ []) c.more) ∙ c.with_more }

  life_course : (life : Life) → Has life lives → (kept : Kept) → output < length kept.lists → OfSeals P (list_of kept output) → (batches : List Batch) → Continues batches life.heard → Course batches (fold (emit i) (begin_life i kept) (each_set_off i batches))
  life_course life lived kept long old =
      by_end (λ bs. Continues bs life.heard → Course bs (fold (emit i) (begin_life i kept) (each_set_off i bs)))
      (λ c. record { long = long; tables = ap first_tables has_program; rows = λ q h. absurd h; seals = old })
      (λ bs b before c.
      let done : Kept = fold (emit i) (begin_life i kept) (each_set_off i bs) in
      let next = one_more life lived bs b done c (before (earlier_first bs b life.heard c)) in
      let is : fold (emit i) (begin_life i kept) (each_set_off i (bs ++ b ∷ [])) ≡ emits done (set_off i (all_pairs bs) b) =
      ap (fold (emit i) (begin_life i kept)) (each_set_off-more i bs b) ∙ fold-append (emit i) (begin_life i kept) (each_set_off i bs) (set_off i (all_pairs bs) b ∷ []) ∙ emit_is done (set_off i (all_pairs bs) b) in
      subst (λ k. Course (bs ++ b ∷ []) k) (sym is) next)

  after_is : (log : List Entry) (kept : Kept) (life : Life) → after_life i log kept life ≡ fold (emit i) (begin_life i kept) (each_set_off i life.heard)
  after_is log kept life = ap (λ b. fold (emit i) (begin_life i kept) (if b then map (of_entry i) (take life.taken log) else each_set_off i life.heard)) not_order

  lives_sealed : (log : List Entry) (some : List Life) → IsWithin some lives → (kept : Kept) → output < length kept.lists → OfSeals P (list_of kept output) → OfSeals P (list_of (fold (after_life i log) kept some) output)
  lives_sealed log [] inside kept long old = old
  lives_sealed log (life ∷ some) inside kept long old =
      let next : Kept = after_life i log kept life in
      let c = subst (λ k. Course life.heard k) (sym (after_is log kept life)) (life_course life (inside life (inl refl)) kept long old life.heard (record { more = []; with_more = append-nil life.heard })) in
      lives_sealed log some (λ q h. inside q (inr h)) next c.long c.seals

  nothing_yet : (outputs : List (Option (List ℕ))) (o : ℕ) → OfSeals P (get_or (map (λ p. []) outputs) o [])
  nothing_yet [] o = of_none P
  nothing_yet (p ∷ outputs) zero = of_none P
  nothing_yet (p ∷ outputs) (suc o) = nothing_yet outputs o

  -- so it is of each seal of an emitted list
  pub seals_of_list : (log : List Entry) (all : Lives) → all_lives all ≡ lives → output < length i.outputs → OfSeals P (emitted_by i log all output)
  seals_of_list log all is within =
      let start : Kept = nothing_emitted i in
      let there : output < length start.lists = subst (λ n. output < n) (sym (length-map i.outputs (λ o. []))) within in
      subst (λ l. OfSeals P (list_of (fold (after_life i log) start l) output)) (sym is)
      (lives_sealed log lives (λ q h. h) start there (nothing_yet i.outputs output))
