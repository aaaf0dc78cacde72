-- An emitted list has the rows that its output had in the timesteps of its lives, and no others.
use Rattle.std.proofs.Common.{◌≡◌, refl, ap, sym, subst, ◌∙◌, ℕ, ◌<◌, List, [], ◌∷◌, ◌++◌, length, map, get_or, append_assoc, append-nil, Option, Some, zero, suc}
use Rattle.std.specs.List.{fold, flat_map}
use Rattle.std.proofs.lemmas.List.{length-map}
use Rattle.blz_value.specs.Members.{HaveEqualMembers}
use Rattle.blz_value.specs.Record.{Row}
use Rattle.bloom_forms.specs.declared.program.Program.{Program}
use Rattle.bloom_forms.specs.ProgramStep.{tables_after_step, outputs_of_step, empty_tables}
use Rattle.bloom_forms.specs.Step.{Sets, set_at}
use Rattle.topo_forms.specs.Messages.{Message, rows_in}
use Rattle.messages.specs.Messages.{Entry}
use Rattle.inbox.specs.Instances.{Instance}
use Rattle.inbox.specs.Timesteps.{SetOff}
use Rattle.inbox.specs.Emission.{Kept, list_of, with_rows, with_seals, output_key, seal_all, emit_step, emit_of, emit, first_tables, begin_life, nothing_emitted}
use Rattle.inbox.specs.Lives.{Life, Lives, all_lives, life_sets_off, life_timesteps, after_life, emitted_by}
use Rattle.inbox.specs.Folds.{rows_from}
pub use Rattle.messages.proofs.EmittedLemmas.{members_themselves, members_on, members_then, members_is, rows_in-append, rows-with_row, rows-with_rows, rows-with_seal, rows-with_seals}
use Rattle.inbox.proofs.Lists.Growing.{get_or-each_by_place, emit_step-continues, emit_steps-continue, seal_all-continues}

-- ---- the course of emission

pub rows-emit_steps : (program : Program) (kept : Kept) (nows : List Sets) (output : ℕ) → output < length kept.lists
    → HaveEqualMembers (rows_in (list_of (fold (emit_step program) kept nows) output)) (rows_in (list_of kept output) ++ rows_from program kept.tables nows output)
rows-emit_steps program kept [] output within = members_is (rows_in (list_of kept output)) (rows_in (list_of kept output) ++ []) (sym (append-nil (rows_in (list_of kept output))))
rows-emit_steps program kept (now ∷ nows) output within =
    let outs : List Row = set_at (outputs_of_step program kept.tables now) output in
    let next : Kept = emit_step program kept now in
    let later : List Row = rows_from program next.tables nows output in
    let longer : output < length next.lists = subst (λ n. output < n) (sym (emit_step-continues program kept now).as_many) within in
    let list : list_of next output ≡ with_rows (list_of kept output) outs = get_or-each_by_place (λ o l. with_rows l (set_at (outputs_of_step program kept.tables now) o)) kept.lists output [] within in
    let first : HaveEqualMembers (rows_in (list_of next output)) (rows_in (list_of kept output) ++ outs) = subst (λ l. HaveEqualMembers (rows_in l) (rows_in (list_of kept output) ++ outs)) (sym list) (rows-with_rows (list_of kept output) outs) in
    members_on (rows_in (list_of (fold (emit_step program) next nows) output)) (rows_in (list_of next output) ++ later) (rows_in (list_of kept output) ++ (outs ++ later))
    (rows-emit_steps program next nows output longer)
    (members_on (rows_in (list_of next output) ++ later) ((rows_in (list_of kept output) ++ outs) ++ later) (rows_in (list_of kept output) ++ (outs ++ later))
    (members_then (rows_in (list_of next output)) (rows_in (list_of kept output) ++ outs) later first)
    (members_is ((rows_in (list_of kept output) ++ outs) ++ later) (rows_in (list_of kept output) ++ (outs ++ later)) (append_assoc (rows_in (list_of kept output)) outs later)))

pub rows-seal_all : (i : Instance) (keys : List Row) (lists : List (List Message)) (output : ℕ) → output < length lists → rows_in (get_or (seal_all i keys lists) output []) ≡ rows_in (get_or lists output [])
rows-seal_all i keys lists output within =
    ap rows_in (get_or-each_by_place (λ o l. with_seals (output_key i o) l keys) lists output [] within)
    ∙ rows-with_seals (output_key i output) (get_or lists output []) keys

-- ---- what a life makes

-- all timesteps of what some batches set off
abbrev steps_in_all : List SetOff → List Sets
steps_in_all answers = flat_map (λ s. s.steps) answers

-- the tables after timesteps
pub tables-emit_steps : (program : Program) (kept : Kept) (nows : List Sets) → (fold (emit_step program) kept nows).tables ≡ fold (tables_after_step program) kept.tables nows
tables-emit_steps program kept [] = refl
tables-emit_steps program kept (now ∷ nows) = tables-emit_steps program (emit_step program kept now) nows

pub rows_from-append : (program : Program) (tables : Sets) (xs ys : List Sets) (output : ℕ) → rows_from program tables (xs ++ ys) output ≡ rows_from program tables xs output ++ rows_from program (fold (tables_after_step program) tables xs) ys output
rows_from-append program tables [] ys output = refl
rows_from-append program tables (now ∷ xs) ys output =
    ap (λ l. set_at (outputs_of_step program tables now) output ++ l) (rows_from-append program (tables_after_step program tables now) xs ys output)
    ∙ sym (append_assoc (set_at (outputs_of_step program tables now) output) (rows_from program (tables_after_step program tables now) xs output) (rows_from program (fold (tables_after_step program) (tables_after_step program tables now) xs) ys output))

-- an instance with this program emits so
abbrev pub emits : Program → Instance → Kept → SetOff → Kept
emits program i kept s = emit_of (Some program) i kept s

pub lists-emits : (program : Program) (i : Instance) (kept : Kept) (s : SetOff) → length (emits program i kept s).lists ≡ length kept.lists
lists-emits program i kept s = (seal_all-continues i s.whole (fold (emit_step program) kept s.steps).lists).as_many ∙ (emit_steps-continue program kept s.steps).as_many

rows-emits : (program : Program) (i : Instance) (kept : Kept) (s : SetOff) (output : ℕ) → output < length kept.lists
    → HaveEqualMembers (rows_in (list_of (emits program i kept s) output)) (rows_in (list_of kept output) ++ rows_from program kept.tables s.steps output)
rows-emits program i kept s output within =
    let longer : output < length (fold (emit_step program) kept s.steps).lists = subst (λ n. output < n) (sym (emit_steps-continue program kept s.steps).as_many) within in
    subst (λ l. HaveEqualMembers l (rows_in (list_of kept output) ++ rows_from program kept.tables s.steps output)) (sym (rows-seal_all i s.whole (fold (emit_step program) kept s.steps).lists output longer))
    (rows-emit_steps program kept s.steps output within)

rows-emits_all : (program : Program) (i : Instance) (kept : Kept) (answers : List SetOff) (output : ℕ) → output < length kept.lists
    → HaveEqualMembers (rows_in (list_of (fold (emits program i) kept answers) output)) (rows_in (list_of kept output) ++ rows_from program kept.tables (steps_in_all answers) output)
rows-emits_all program i kept [] output within = members_is (rows_in (list_of kept output)) (rows_in (list_of kept output) ++ []) (sym (append-nil (rows_in (list_of kept output))))
rows-emits_all program i kept (s ∷ answers) output within =
    let next : Kept = emits program i kept s in
    let old : List Row = rows_in (list_of kept output) in
    let now : List Row = rows_from program kept.tables s.steps output in
    let later : List Row = rows_from program next.tables (steps_in_all answers) output in
    let longer : output < length next.lists = subst (λ n. output < n) (sym (lists-emits program i kept s)) within in
    let joined : now ++ later ≡ rows_from program kept.tables (s.steps ++ steps_in_all answers) output =
    ap (λ tables. now ++ rows_from program tables (steps_in_all answers) output) (tables-emit_steps program kept s.steps)
    ∙ sym (rows_from-append program kept.tables s.steps (steps_in_all answers) output) in
    members_on (rows_in (list_of (fold (emits program i) next answers) output)) (rows_in (list_of next output) ++ later) (old ++ rows_from program kept.tables (s.steps ++ steps_in_all answers) output)
    (rows-emits_all program i next answers output longer)
    (members_on (rows_in (list_of next output) ++ later) ((old ++ now) ++ later) (old ++ rows_from program kept.tables (s.steps ++ steps_in_all answers) output)
    (members_then (rows_in (list_of next output)) (old ++ now) later (rows-emits program i kept s output within))
    (members_is ((old ++ now) ++ later) (old ++ rows_from program kept.tables (s.steps ++ steps_in_all answers) output) (append_assoc old now later ∙ ap (λ l. old ++ l) joined)))

lists-emits_all : (program : Program) (i : Instance) (kept : Kept) (answers : List SetOff) → length (fold (emits program i) kept answers).lists ≡ length kept.lists
lists-emits_all program i kept [] = refl
lists-emits_all program i kept (s ∷ answers) = lists-emits_all program i (emits program i kept s) answers ∙ lists-emits program i kept s

-- ---- lives

-- an output's rows in a life, from empty tables
abbrev pub life_rows : Program → Instance → (log : List Entry) → (output : ℕ) → Life → List Row
life_rows program i log output life = rows_from program (empty_tables program) (life_timesteps i log life) output

module _ (program : Program) (i : Instance) (has_program : i.program ≡ Some program) (log : List Entry) where
  emit_is : (kept : Kept) (s : SetOff) → emit i kept s ≡ emits program i kept s
  emit_is kept s = ap (λ p. emit_of p i kept s) has_program

  fold_is : (kept : Kept) (answers : List SetOff) → fold (emit i) kept answers ≡ fold (emits program i) kept answers
  fold_is kept [] = refl
  fold_is kept (s ∷ answers) = ap (λ k. fold (emit i) k answers) (emit_is kept s) ∙ fold_is (emits program i kept s) answers

  begin_is : (kept : Kept) → (begin_life i kept).tables ≡ empty_tables program
  begin_is kept = ap first_tables has_program

  lists-after_life : (kept : Kept) (life : Life) → length (after_life i log kept life).lists ≡ length kept.lists
  lists-after_life kept life = ap (λ k. length k.lists) (fold_is (begin_life i kept) (life_sets_off i log life)) ∙ lists-emits_all program i (begin_life i kept) (life_sets_off i log life)

  rows-after_life : (kept : Kept) (life : Life) (output : ℕ) → output < length kept.lists → HaveEqualMembers (rows_in (list_of (after_life i log kept life) output)) (rows_in (list_of kept output) ++ life_rows program i log output life)
  rows-after_life kept life output within =
      subst (λ k. HaveEqualMembers (rows_in (list_of k output)) (rows_in (list_of kept output) ++ life_rows program i log output life)) (sym (fold_is (begin_life i kept) (life_sets_off i log life)))
      (subst (λ tables. HaveEqualMembers (rows_in (list_of (fold (emits program i) (begin_life i kept) (life_sets_off i log life)) output)) (rows_in (list_of kept output) ++ rows_from program tables (life_timesteps i log life) output)) (begin_is kept)
      (rows-emits_all program i (begin_life i kept) (life_sets_off i log life) output within))

  rows-after_lives : (lives : List Life) (kept : Kept) (output : ℕ) → output < length kept.lists → HaveEqualMembers (rows_in (list_of (fold (after_life i log) kept lives) output)) (rows_in (list_of kept output) ++ flat_map (life_rows program i log output) lives)
  rows-after_lives [] kept output within = members_is (rows_in (list_of kept output)) (rows_in (list_of kept output) ++ []) (sym (append-nil (rows_in (list_of kept output))))
  rows-after_lives (life ∷ lives) kept output within =
      let next : Kept = after_life i log kept life in
      let old : List Row = rows_in (list_of kept output) in
      let later : List Row = flat_map (life_rows program i log output) lives in
      members_on (rows_in (list_of (fold (after_life i log) next lives) output)) (rows_in (list_of next output) ++ later) (old ++ (life_rows program i log output life ++ later))
      (rows-after_lives lives next output (subst (λ n. output < n) (sym (lists-after_life kept life)) within))
      (members_on (rows_in (list_of next output) ++ later) ((old ++ life_rows program i log output life) ++ later) (old ++ (life_rows program i log output life ++ later))
      (members_then (rows_in (list_of next output)) (old ++ life_rows program i log output life) later (rows-after_life kept life output within))
      (members_is ((old ++ life_rows program i log output life) ++ later) (old ++ (life_rows program i log output life ++ later)) (append_assoc old (life_rows program i log output life) later)))

  nothing_there : (outputs : List (Option (List ℕ))) (output : ℕ) → rows_in (get_or (map (λ o. []) outputs) output []) ≡ []
  nothing_there [] output = refl
  nothing_there (o ∷ outputs) zero = refl
  nothing_there (o ∷ outputs) (suc output) = nothing_there outputs output

  -- the rows of an emitted list are those that the output had in the timesteps of its lives, each from empty tables
  pub rows_of_list : (lives : Lives) (output : ℕ) → output < length i.outputs → HaveEqualMembers (rows_in (emitted_by i log lives output)) (flat_map (life_rows program i log output) (all_lives lives))
  rows_of_list lives output within =
      let start : Kept = nothing_emitted i in
      let there : output < length start.lists = subst (λ n. output < n) (sym (length-map i.outputs (λ o. []))) within in
      subst (λ l. HaveEqualMembers (rows_in (emitted_by i log lives output)) (l ++ flat_map (life_rows program i log output) (all_lives lives))) (nothing_there i.outputs output)
      (rows-after_lives (all_lives lives) start output there)
