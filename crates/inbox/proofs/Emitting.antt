-- What the changes of a step append to an emitted list is what its whole outputs append.
-- The rows that are left out are put out by the tables of before with nothing arriving.
-- These stand in the emitted list: after a step they lie within what it put out, and empty tables put out nothing.
-- The rows that don't stand in the list are the same, in the same order, among the changes and among the whole outputs.
use Rattle.std.proofs.Common.{◌≡◌, ◌≢◌, ◌<◌, ℕ, Bool, true, false, not, cond, Some, List, [], ◌∷◌, ◌++◌, length, map, filter, refl, ap, ◌∙◌, sym, subst, inl, inr, append_assoc, append-nil}
use Rattle.std.specs.Prelude.{if◌then◌else◌}
use Rattle.std.specs.List.{fold, list_any}
use Rattle.std.specs.List.Sorted.{IsStrictlySortedBy}
use Rattle.std.proofs.lemmas.Bool.{cases_Bool}
use Rattle.blz_value.specs.Members.{Has}
use Rattle.blz_value.specs.Record.{Row, record_cmp}
use Rattle.blz_value.specs.RecordOrder.{record_cmp_total}
use Rattle.blz_value.specs.Sets.{IsRowSet}
use Rattle.blz_value.proofs.Membership.{Has-append_right, Has-append_left, Has-append_cases, Has-filter, Has-from_filter}
use Rattle.blz_value.proofs.SetLemmas.{below_not_in}
use Rattle.blz_value.proofs.SetLaws.{same_row_sets}
use Rattle.blz_value.proofs.OperatorsLemmas.{sorted_filter}
use Rattle.blz_value.proofs.Lists.{filter_same}
use Rattle.bloom_forms.specs.declared.program.Program.{Program}
use Rattle.bloom_forms.specs.declared.program.Program.TheVariants.{Module, Split, Latest, Number}
use Rattle.bloom_forms.specs.Laws.{StandsStill}
use Rattle.bloom_forms.specs.ProgramStep.{outputs_of_step, standing_outputs, empty_tables}
use Rattle.bloom_forms.specs.Proper.{IsProper}
use Rattle.bloom_forms.specs.Step.{Sets, set_at}
use Rattle.bloom_forms.proofs.Ends.Standing.{module_stands}
use Rattle.bloom_forms.proofs.Ends.StockStanding.{split_stands, latest_stands, number_stands}
use Rattle.bloom_eval.specs.Changes.{AreChanges}
use Rattle.topo_forms.specs.Messages.{Message, row, seal, row_in, rows_in}
use Rattle.messages.specs.Messages.{Entry, is_same_message}
use Rattle.inbox.specs.Instances.{Instance}
use Rattle.inbox.specs.Timesteps.{SetOff}
use Rattle.inbox.specs.Emission.{Kept, list_of, with_rows, seal_all, emit_step, emit_of, emit, first_tables, begin_life, nothing_emitted}
use Rattle.inbox.specs.Lives.{Life, Lives, all_lives, life_sets_off, after_life, kept_after}
use Rattle.messages.proofs.MessagesLemmas.{is_same_message-is, is_same_message-itself, any-from_same, same-from_any}
use Rattle.inbox.proofs.Lists.Growing.{get_or-each_by_place, length-each_by_place, emit_step-continues}
use Rattle.inbox.proofs.Lists.Rows.{rows-with_rows, rows-seal_all}
use Rattle.inbox.proofs.TimestepLemmas.Whole.{Has-from_filter_map}
use Rattle.inbox.specs.Running.{StandingIsEmitted}
use Rattle.inbox.proofs.OutputSets.{output_is_set}

-- ---- the rows of a set that a list doesn't have

-- a record doesn't stand in the list
abbrev is_fresh : List Message → Row → Bool
is_fresh list r = not (list_any (is_same_message (row r)) list)

Has-row : (list : List Message) (r : Row) → Has r (rows_in list) → Has (row r) list
Has-row list r h = by_message (Has-from_filter_map row_in r list h)
  where
    is_row : (m : Message) → row_in m ≡ Some r → m ≡ row r
    is_row (row q) e = cc
    is_row (seal key count) e = cc

    by_message : (m : Message) × Has m list × (row_in m ≡ Some r) → Has (row r) list
    by_message t = subst (λ m. Has m list) (is_row t.0 t.2) t.1

old_isnt_fresh : (list : List Message) (r : Row) → Has (row r) list → is_fresh list r ≡ false
old_isnt_fresh list r h = ap not (any-from_same is_same_message is_same_message-is is_same_message-itself (row r) list h)

old_or_fresh : (list : List Message) (r : Row) → is_fresh list r ≡ false → Has (row r) list
old_or_fresh list r e = elim (cases_Bool (list_any (is_same_message (row r)) list)) [
  | inl there ↦ same-from_any is_same_message is_same_message-is is_same_message-itself (row r) list there
  | inr none ↦ let no : true ≡ false = ap not (sym none) ∙ e in cc
]

-- a record that stands in a longer list and isn't the last stands in the list
fresh_before : (list : List Message) (r q : Row) → r ≢ q → is_fresh (list ++ row r ∷ []) q ≡ is_fresh list q
fresh_before list r q differ = elim (cases_Bool (is_fresh list q)) [
  | inl fresh ↦ elim (cases_Bool (is_fresh (list ++ row r ∷ []) q)) [
    | inl is ↦ is ∙ sym fresh
    | inr isnt ↦ absurd (not_there fresh (old_or_fresh (list ++ row r ∷ []) q isnt))
  ]
  | inr old ↦ old_isnt_fresh (list ++ row r ∷ []) q (Has-append_left (row q) list (row r ∷ []) (old_or_fresh list q old)) ∙ sym old
]
  where
    one_row : row r ≡ row q → r ≡ q
    one_row e = cc

    not_there : is_fresh list q ≡ true → Has (row q) (list ++ row r ∷ []) → ⊥
    not_there fresh h = elim (Has-append_cases (row q) list (row r ∷ []) h) [
      | inl old ↦ let no : true ≡ false = sym fresh ∙ old_isnt_fresh list q old in cc
      | inr last ↦ elim last [ inl same ↦ differ (one_row same) | inr none ↦ none ]
    ]

-- rows that don't repeat go behind a list, but for those that it has
pub appended : (list : List Message) (rows : List Row) → IsRowSet rows → with_rows list rows ≡ list ++ map row (filter (is_fresh list) rows)
unfolding IsStrictlySortedBy
appended list [] sorted = sym (append-nil list)
appended list (r ∷ rows) sorted = go (list_any (is_same_message (row r)) list) refl (λ l. appended l rows sorted.1)
  where
    differ : (q : Row) → Has q rows → r ≢ q
    differ q h same = below_not_in record_cmp record_cmp_total r rows sorted.0 (subst (λ z. Has z rows) (sym same) h)

    go : (b : Bool) → list_any (is_same_message (row r)) list ≡ b → ((l : List Message) → with_rows l rows ≡ l ++ map row (filter (is_fresh l) rows))
        → with_rows (if b then list else list ++ row r ∷ []) rows ≡ list ++ map row (cond (not b) (r ∷ filter (is_fresh list) rows) (filter (is_fresh list) rows))
    go true is rest = rest list
    go false is rest =
        rest (list ++ row r ∷ [])
        ∙ ap (λ l. (list ++ row r ∷ []) ++ map row l) (filter_same (is_fresh (list ++ row r ∷ [])) (is_fresh list) rows (λ q h. fresh_before list r q (differ q h)))
        ∙ append_assoc list (row r ∷ []) (map row (filter (is_fresh list) rows))

-- ---- rows that stand in the lists already

-- the programs of valid topologies stand still
pub proper_stands : (program : Program) → IsProper program → StandsStill program
proper_stands (Module a) proper = module_stands a proper
proper_stands (Split columns split) proper = split_stands columns split
proper_stands (Latest columns keys) proper = latest_stands columns keys
proper_stands (Number columns) proper = number_stands columns

standing-begun : (program : Program) (lists : List (List Message)) → StandsStill program → StandingIsEmitted program (record { tables = empty_tables program; lists = lists })
standing-begun program lists still = record { emitted = λ output r within h. absurd (subst (λ rows. Has r rows) (still.empty output) h) }

pub standing-step : (program : Program) (kept : Kept) (now : Sets) → StandsStill program → StandingIsEmitted program (emit_step program kept now)
standing-step program kept now still = record {
  emitted = λ output r within h.
      let outs : List Row = set_at (outputs_of_step program kept.tables now) output in
      let there : output < length kept.lists = subst (λ n. output < n) (emit_step-continues program kept now).as_many within in
      let list : list_of (emit_step program kept now) output ≡ with_rows (list_of kept output) outs = get_or-each_by_place (λ o l. with_rows l (set_at (outputs_of_step program kept.tables now) o)) kept.lists output [] there in
      subst (λ l. Has r (rows_in l)) (sym list)
      ((rows-with_rows (list_of kept output) outs).1 r (Has-append_right r (rows_in (list_of kept output)) outs (still.outputs kept.tables now output r h)));
}

standing-steps : (program : Program) (kept : Kept) (nows : List Sets) → StandsStill program → StandingIsEmitted program kept → StandingIsEmitted program (fold (emit_step program) kept nows)
standing-steps program kept [] still s = s
standing-steps program kept (now ∷ nows) still s = standing-steps program (emit_step program kept now) nows still (standing-step program kept now still)

pub standing-sealed : (program : Program) (i : Instance) (keys : List Row) (kept : Kept) → StandingIsEmitted program kept → StandingIsEmitted program (record { tables = kept.tables; lists = seal_all i keys kept.lists })
standing-sealed program i keys kept s = record {
  emitted = λ output r within h.
      let there : output < length kept.lists = subst (λ n. output < n) (length-each_by_place _ kept.lists) within in
      subst (λ rows. Has r rows) (sym (rows-seal_all i keys kept.lists output there)) (s.emitted output r there h);
}

module _ (program : Program) (i : Instance) (runs : i.program ≡ Some program) (still : StandsStill program) where
  standing-emit : (kept : Kept) (s : SetOff) → StandingIsEmitted program kept → StandingIsEmitted program (emit i kept s)
  standing-emit kept s h =
      subst (λ o. StandingIsEmitted program (emit_of o i kept s)) (sym runs)
      (standing-sealed program i s.whole (fold (emit_step program) kept s.steps) (standing-steps program kept s.steps still h))

  standing-emits : (kept : Kept) (all : List SetOff) → StandingIsEmitted program kept → StandingIsEmitted program (fold (emit i) kept all)
  standing-emits kept [] h = h
  standing-emits kept (s ∷ all) h = standing-emits (emit i kept s) all (standing-emit kept s h)

  standing-first : (lists : List (List Message)) → StandingIsEmitted program (record { tables = first_tables i.program; lists = lists })
  standing-first lists = subst (λ o. StandingIsEmitted program (record { tables = first_tables o; lists = lists })) (sym runs) (standing-begun program lists still)

  standing-lives : (log : List Entry) (kept : Kept) (lives : List Life) → StandingIsEmitted program kept → StandingIsEmitted program (fold (after_life i log) kept lives)
  standing-lives log kept [] h = h
  standing-lives log kept (life ∷ lives) h = standing-lives log (after_life i log kept life) lives (standing-emits (begin_life i kept) (life_sets_off i log life) (standing-first kept.lists))

  pub standing_is_emitted : (log : List Entry) (lives : Lives) → StandingIsEmitted program (kept_after i log lives)
  standing_is_emitted log lives = standing-lives log (nothing_emitted i) (all_lives lives) (standing-first (nothing_emitted i).lists)

-- ---- changes

-- changes append what the whole output appends
pub changes_append : (program : Program) (kept : Kept) (now some : Sets) (output : ℕ) → StandingIsEmitted program kept → output < length kept.lists
    → AreChanges (outputs_of_step program kept.tables now) (standing_outputs program kept.tables) some → IsRowSet (set_at some output)
    → with_rows (list_of kept output) (set_at some output) ≡ with_rows (list_of kept output) (set_at (outputs_of_step program kept.tables now) output)
changes_append program kept now some output standing within changes sorted =
    let list : List Message = list_of kept output in
    let fewer : List Row = set_at some output in
    let all : List Row = set_at (outputs_of_step program kept.tables now) output in
    let all_set : IsRowSet all = output_is_set program kept.tables now output in
    let new : (r : Row) → Has r (filter (is_fresh list) all) → Has r (filter (is_fresh list) fewer) = (λ r h.
    let m = Has-from_filter (is_fresh list) r all h in
    Has-filter (is_fresh list) r fewer (changes.new output r m.0 (λ stands. isnt_old list r m.1 (standing.emitted output r within stands))) m.1) in
    let old : (r : Row) → Has r (filter (is_fresh list) fewer) → Has r (filter (is_fresh list) all) = (λ r h.
    let m = Has-from_filter (is_fresh list) r fewer h in
    Has-filter (is_fresh list) r all (changes.only output r m.0) m.1) in
    appended list fewer sorted
    ∙ ap (λ l. list ++ map row l) (same_row_sets (filter (is_fresh list) fewer) (filter (is_fresh list) all) (sorted_filter (is_fresh list) fewer sorted) (sorted_filter (is_fresh list) all all_set) (old, new))
    ∙ sym (appended list all all_set)
  where
    isnt_old : (list : List Message) (r : Row) → is_fresh list r ≡ true → Has r (rows_in list) → ⊥
    isnt_old list r fresh h = let no : true ≡ false = sym fresh ∙ old_isnt_fresh list r (Has-row list r h) in cc
