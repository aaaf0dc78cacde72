-- No emitted list has a record twice, nor two seals of one partition.
use Rattle.std.proofs.Common.{◌≡◌, refl, sym, subst, ◌∙◌, ℕ, zero, suc, Bool, true, false, List, [], ◌∷◌, ◌++◌, length, map, filter, not, cond, get_or, arith, inl, inr, Option, None, Some, slice_get}
use Rattle.std.specs.Prelude.{if◌then◌else◌}
use Rattle.std.specs.List.{fold, list_any}
use Rattle.std.specs.List.Sorted.{IsStrictlySortedBy}
use Rattle.std.specs.Option.{option_map_or}
use Rattle.std.proofs.lemmas.Bool.{cases_lt, not-true, false_from_ne_true}
use Rattle.std.proofs.lemmas.List.{get_or_past}
use Rattle.blz_value.specs.Members.{Has}
use Rattle.blz_value.specs.Record.{Row, record_cmp}
use Rattle.blz_value.specs.RecordOrder.{record_cmp_total}
use Rattle.blz_value.specs.Sets.{IsRowSet}
use Rattle.blz_value.proofs.Membership.{Has-append_cases, Has-map, Has-from_map, Has-from_filter}
use Rattle.blz_value.specs.declared.attrs.Attrs.{Attrs}
use Rattle.blz_value.proofs.SetLemmas.{below_not_in}
use Rattle.blz_value.proofs.SetLaws.{sorted_set_of}
use Rattle.bloom_forms.specs.declared.program.Program.{Program}
use Rattle.bloom_forms.specs.ProgramStep.{outputs_of_step}
use Rattle.bloom_forms.specs.Step.{Sets, set_at}
use Rattle.bloom_forms.specs.Roots.{Roots}
use Rattle.topo_forms.specs.Data.{Data, SourceData, source_data, key_value, rows_with_key}
use Rattle.topo_forms.specs.Messages.{Message, row, seal, is_same_row, distinct_rows, partitions, source_seals, source_messages}
use Rattle.topo_forms.specs.View.{Stream, End}
use Rattle.messages.specs.Messages.{Entry, is_same_message, sealed_in, key_sealed}
use Rattle.inbox.specs.Instances.{Instance}
use Rattle.inbox.specs.Timesteps.{SetOff}
use Rattle.inbox.specs.Emission.{Kept, each_by_place, has_seal, count_in, with_row, with_rows, with_seal, with_seals, output_key, emit_step, emit_of, emit, begin_life, nothing_emitted}
use Rattle.inbox.specs.Lives.{Life, Lives, all_lives, life_sets_off, after_life, emitted_by}
use Rattle.inbox.specs.Wiring.{Wiring, instance_at}
use Rattle.inbox.specs.Executions.{Execution, list_from, emitted_list}
use Rattle.inbox.specs.Growth.{is_repeat_of, NoRepeats}
use Rattle.messages.proofs.MessagesLemmas.{is_same_row-is, is_same_row-itself, is_same_message-is, is_same_message-itself, any-from_same}
use Rattle.inbox.proofs.Lists.Growing.{length-each_by_place, get_or-each_by_place}
use Rattle.inbox.proofs.TimestepLemmas.Whole.{Has-filter_map}

-- ---- lists without repeats

-- with a message at the end that repeats none
pub no_repeats-more : (list : List Message) (m : Message) → NoRepeats list → ((q : Message) → Has q list → is_repeat_of q m ≡ false) → NoRepeats (list ++ m ∷ [])
no_repeats-more [] m none new = (λ q h. absurd h, tt)
no_repeats-more (x ∷ list) m none new = (
  λ q h. elim (Has-append_cases q list (m ∷ []) h) [
    | inl old ↦ none.0 q old
    | inr last ↦ elim last [ inl e ↦ subst (λ z. is_repeat_of x z ≡ false) e (new x (inl refl)) | inr no_more ↦ absurd no_more ]
  ],
  no_repeats-more list m none.1 (λ q h. new q (inr h)),
)

-- a piece of one
pub no_repeats-after : (before after : List Message) → NoRepeats (before ++ after) → NoRepeats after
no_repeats-after [] after none = none
no_repeats-after (x ∷ before) after none = no_repeats-after before after none.1

-- two of which none repeats one of the other
pub no_repeats-append : (xs ys : List Message) → NoRepeats xs → NoRepeats ys → ((a b : Message) → Has a xs → Has b ys → is_repeat_of a b ≡ false) → NoRepeats (xs ++ ys)
no_repeats-append [] ys p q apart = q
no_repeats-append (x ∷ xs) ys p q apart = (
  λ b h. elim (Has-append_cases b xs ys h) [ inl old ↦ p.0 b old | inr other ↦ apart x b (inl refl) other ],
  no_repeats-append xs ys p.1 q (λ a b h g. apart a b (inr h) g),
)

-- a record that isn't there repeats nothing
row_new : (list : List Message) (r : Row) → list_any (is_same_message (row r)) list ≡ false → (q : Message) → Has q list → is_repeat_of q (row r) ≡ false
row_new list r e (seal k n) h = refl
row_new list r e (row a) h = false_from_ne_true (is_same_row a r) (λ same.
    let there : Has (row r) list = subst (λ z. Has (row z) list) (is_same_row-is a r same) h in
    let found : list_any (is_same_message (row r)) list ≡ true = any-from_same is_same_message is_same_message-is is_same_message-itself (row r) list there in
    let no_more : true ≡ false = sym found ∙ e in cc)

row_cases : (list : List Message) (r : Row) (b : Bool) → list_any (is_same_message (row r)) list ≡ b → NoRepeats list → NoRepeats (if b then list else list ++ row r ∷ [])
row_cases list r true e none = none
row_cases list r false e none = no_repeats-more list (row r) none (row_new list r e)

pub no_repeats-with_rows : (list : List Message) (rows : List Row) → NoRepeats list → NoRepeats (with_rows list rows)
no_repeats-with_rows list [] none = none
no_repeats-with_rows list (r ∷ rows) none = no_repeats-with_rows (with_row list r) rows (row_cases list r (list_any (is_same_message (row r)) list) refl none)

-- a seal of a partition without one repeats nothing
seal_new : (list : List Message) (key : Row) (count : ℕ) → has_seal list key ≡ false → (q : Message) → Has q list → is_repeat_of q (seal key count) ≡ false
seal_new list key count e (row a) h = refl
seal_new list key count e (seal k n) h = false_from_ne_true (is_same_row k key) (λ same.
    let there : Has key (sealed_in list) = subst (λ z. Has z (sealed_in list)) (is_same_row-is k key same) (Has-filter_map key_sealed (seal k n) k list h refl) in
    let found : has_seal list key ≡ true = any-from_same is_same_row is_same_row-is is_same_row-itself key (sealed_in list) there in
    let no_more : true ≡ false = sym found ∙ e in cc)

seal_cases : (list : List Message) (key : Row) (count : ℕ) (b : Bool) → has_seal list key ≡ b → NoRepeats list → NoRepeats (if b then list else list ++ seal key count ∷ [])
seal_cases list key count true e none = none
seal_cases list key count false e none = no_repeats-more list (seal key count) none (seal_new list key count e)

pub no_repeats-with_seals : (places : Option (List ℕ)) (list : List Message) (keys : List Row) → NoRepeats list → NoRepeats (with_seals places list keys)
no_repeats-with_seals None list keys none = none
no_repeats-with_seals (Some places) list [] none = none
no_repeats-with_seals (Some places) list (key ∷ keys) none = no_repeats-with_seals (Some places) (with_seal places list key) keys (seal_cases list key (count_in places list key) (has_seal list key) refl none)

-- ---- the lists of an instance

abbrev pub NoneRepeats : List (List Message) → Type 0
NoneRepeats lists = (output : ℕ) → NoRepeats (get_or lists output [])

changed : (change : ℕ → List Message → List Message) (lists : List (List Message)) → ((output : ℕ) (list : List Message) → NoRepeats list → NoRepeats (change output list)) → NoneRepeats lists → NoneRepeats (each_by_place change lists)
changed change lists keeps none output = elim (cases_lt output (length lists)) [
  | inl within ↦ subst (λ l. NoRepeats l) (sym (get_or-each_by_place change lists output [] within)) (keeps output (get_or lists output []) (none output))
  | inr past ↦
      let gone : length (each_by_place change lists) ≡ length lists = length-each_by_place change lists in
      subst (λ l. NoRepeats l) (sym (get_or_past (each_by_place change lists) output [] (omega (arith, gone, past)))) tt
]

emit_steps-none : (program : Program) (kept : Kept) (nows : List Sets) → NoneRepeats kept.lists → NoneRepeats (fold (emit_step program) kept nows).lists
emit_steps-none program kept [] none = none
emit_steps-none program kept (now ∷ nows) none =
    emit_steps-none program (emit_step program kept now) nows
    (changed (λ output list. with_rows list (set_at (outputs_of_step program kept.tables now) output)) kept.lists (λ output list n. no_repeats-with_rows list (set_at (outputs_of_step program kept.tables now) output) n) none)

emit_of-none : (program : Option Program) (i : Instance) (kept : Kept) (s : SetOff) → NoneRepeats kept.lists → NoneRepeats (emit_of program i kept s).lists
emit_of-none None i kept s none = none
emit_of-none (Some program) i kept s none =
    changed (λ output list. with_seals (output_key i output) list s.whole) (fold (emit_step program) kept s.steps).lists (λ output list n. no_repeats-with_seals (output_key i output) list s.whole n) (emit_steps-none program kept s.steps none)

emits-none : (i : Instance) (kept : Kept) (answers : List SetOff) → NoneRepeats kept.lists → NoneRepeats (fold (emit i) kept answers).lists
emits-none i kept [] none = none
emits-none i kept (s ∷ answers) none = emits-none i (emit i kept s) answers (emit_of-none i.program i kept s none)

lives-none : (i : Instance) (log : List Entry) (kept : Kept) (lives : List Life) → NoneRepeats kept.lists → NoneRepeats (fold (after_life i log) kept lives).lists
lives-none i log kept [] none = none
lives-none i log kept (life ∷ lives) none = lives-none i log (after_life i log kept life) lives (emits-none i (begin_life i kept) (life_sets_off i log life) none)

begun_none : (outputs : List (Option (List ℕ))) (output : ℕ) → NoRepeats (get_or (map (λ o. []) outputs) output [])
begun_none [] output = tt
begun_none (o ∷ outputs) zero = tt
begun_none (o ∷ outputs) (suc output) = begun_none outputs output

pub no_repeats-emitted_by : (i : Instance) (log : List Entry) (lives : Lives) (output : ℕ) → NoRepeats (emitted_by i log lives output)
no_repeats-emitted_by i log lives output = lives-none i log (nothing_emitted i) (all_lives lives) (begun_none i.outputs) output

-- ---- the lists of sources

-- some of the records repeat none where all of them do
some_rows : (p : Row → Bool) (rows : List Row) → NoRepeats (map row rows) → NoRepeats (map row (filter p rows))
some_rows p [] none = tt
some_rows p (r ∷ rows) none = elim (p r) as (λ b. NoRepeats (map row (cond b (r ∷ filter p rows) (filter p rows)))) [
  | true ↦ (
    λ q h.
        let m = Has-from_map row q (filter p rows) h in
        none.0 q (subst (λ z. Has z (map row rows)) m.2 (Has-map row m.0 rows (Has-from_filter p m.0 rows m.1).0)),
    some_rows p rows none.1,
  )
  | false ↦ some_rows p rows none.1
]

distinct_none : (rows : List Row) → NoRepeats (map row (distinct_rows rows))
distinct_none [] = tt
distinct_none (r ∷ rows) =
    let other : Row → Bool = λ y. not (is_same_row r y) in (
      λ q h.
          let m = Has-from_map row q (filter other (distinct_rows rows)) h in
          subst (λ z. is_repeat_of (row r) z ≡ false) m.2 (not-true (is_same_row r m.0) (Has-from_filter other m.0 (distinct_rows rows) m.1).1),
      some_rows other (distinct_rows rows) (distinct_none rows),
    )

seals_of_set : (f : Row → Message) → ((k : Row) → (n : ℕ) × (f k ≡ seal k n)) → (keys : List Row) → IsRowSet keys → NoRepeats (map f keys)
unfolding IsStrictlySortedBy
seals_of_set f is [] sorted = tt
seals_of_set f is (k ∷ keys) sorted = (
  λ q h.
      let m = Has-from_map f q keys h in
      let a = is k in
      let b = is m.0 in
      subst (λ z. is_repeat_of (f k) z ≡ false) m.2
      (subst (λ z. is_repeat_of z (f m.0) ≡ false) (sym a.1)
      (subst (λ z. is_repeat_of (seal k a.0) z ≡ false) (sym b.1)
      (false_from_ne_true (is_same_row k m.0) (λ same. below_not_in record_cmp record_cmp_total k keys sorted.0 (subst (λ z. Has z keys) (sym (is_same_row-is k m.0 same)) m.1))))),
  seals_of_set f is keys sorted.1,
)

source_apart : (rows : List Row) (f : Row → Message) → ((k : Row) → (n : ℕ) × (f k ≡ seal k n)) → (keys : List Row) → (a b : Message) → Has a (map row rows) → Has b (map f keys) → is_repeat_of a b ≡ false
source_apart rows f is keys a b h g =
    let m = Has-from_map row a rows h in
    let l = Has-from_map f b keys g in
    let n = is l.0 in
    subst (λ z. is_repeat_of z b ≡ false) m.2 (subst (λ z. is_repeat_of (row m.0) z ≡ false) l.2 (subst (λ z. is_repeat_of (row m.0) z ≡ false) (sym n.1) refl))

with_seals_none : (columns : Roots) (key : Option Attrs) (given : SourceData) → NoRepeats (map row (distinct_rows given.rows) ++ source_seals columns key given)
with_seals_none columns None given = no_repeats-append (map row (distinct_rows given.rows)) [] (distinct_none given.rows) tt (λ a b h g. absurd g)
with_seals_none columns (Some key) given =
    let rows : List Row = distinct_rows given.rows in
    let sealed : Row → Message = λ value. seal value (length (rows_with_key columns key.bits value rows)) in
    let keys : List Row = partitions columns key.bits given in
    no_repeats-append (map row rows) (map sealed keys) (distinct_none given.rows)
    (seals_of_set sealed (λ k. (_, refl)) keys (sorted_set_of (map (key_value columns key.bits) given.rows ++ given.parts)))
    (source_apart rows sealed (λ k. (_, refl)) keys)

pub no_repeats-source : (s : Stream) (given : SourceData) → NoRepeats (source_messages s given)
no_repeats-source s given = with_seals_none s.columns s.key given

-- ---- all lists

no_repeats-from : (origin : Option End) (w : Wiring) (given : Data) (x : Execution) (line : Stream) (stream replica : ℕ) → NoRepeats (list_from origin w given x line stream replica)
no_repeats-from None w given x line stream replica = no_repeats-source line (source_data given stream)
no_repeats-from (Some spot) w given x line stream replica = no_repeats-emitted_by (instance_at w spot.0 replica) (x.logs spot.0) (x.lives spot.0 replica) spot.1

no_repeats-line : (line : Option Stream) (w : Wiring) (given : Data) (x : Execution) (stream replica : ℕ) → NoRepeats (option_map_or (λ l. list_from l.origin w given x l stream replica) line [])
no_repeats-line None w given x stream replica = tt
no_repeats-line (Some line) w given x stream replica = no_repeats-from line.origin w given x line stream replica

-- no emitted list has a record twice, nor two seals of one partition
pub no_repeats-emitted_list : (w : Wiring) (given : Data) (x : Execution) (stream replica : ℕ) → NoRepeats (emitted_list w given x stream replica)
no_repeats-emitted_list w given x stream replica = no_repeats-line (slice_get w.streams stream) w given x stream replica
