-- What a net finds of an emitted list is the list that the execution has for which its books stand.
use Rattle.std.proofs.Common.{◌≡◌, ◌<◌, ◌≤◌, ◌+◌, ◌++◌, ◌&&◌, ℕ, suc, Bool, true, false, Option, None, Some, List, [], ◌∷◌, Bor, length, map, get_or, slice_get, nat_lt, refl, ap, ◌∙◌, sym, subst, inl, inr, arith, take}
use Rattle.std.specs.Prelude.{Result, Ok, Err, IfOk, if◌then◌else◌}
use Rattle.std.specs.List.{All, cons_option}
use Rattle.std.specs.List.Sorted.{IsPermutation, IsSorted}
use Rattle.std.specs.Option.{option_copied, option_map, option_map_or, option_and_then}
use Rattle.std.proofs.lemmas.Bool.{cases_lt}
use Rattle.std.proofs.lemmas.List.{length-map, get_or_past, map-append, take_more}
use Rattle.std.proofs.lemmas.List.Elements.{filter_map-append}
use Rattle.std.proofs.lemmas.List.Sums.{get_or-le-sum_by}
use Rattle.std.proofs.lemmas.Option.{slice_get-map, slice_get_past, slice_get_cases}
use Rattle.blz_pool.specs.Pool.{IsPool}
use Rattle.blz_set.specs.RecordSet.{row_limit}
use Rattle.blz_set.specs.References.{shown}
use Rattle.blz_value.specs.Members.{Has}
use Rattle.blz_value.specs.Record.{Row as Record, record_cmp}
use Rattle.blz_value.specs.Sets.{set_of}
use Rattle.blz_value.proofs.Membership.{Has-get_or}
use Rattle.blz_value.proofs.RowSets.{length-set_of-le}
use Rattle.blz_value.proofs.Lists.{lt-not}
use Rattle.blz_value.proofs.MessagesLemmas.{length-rows_in-le}
use Rattle.bloom_forms.specs.declared.program.Program.{Program}
use Rattle.bloom_forms.specs.Program.{port_columns}
use Rattle.topo_forms.specs.Data.{Data}
use Rattle.bloom_forms.specs.HeadRoots.{attribute_roots}
use Rattle.bloom_forms.specs.Roots.{Roots}
use Rattle.topo_forms.specs.Messages.{Message, row, row_in, rows_in}
use Rattle.topo_forms.specs.Valid.{IsValid}
use Rattle.topo_forms.specs.View.{View, Stream, component_at, senders_of, stream_at, stream_of, stream_replicas, is_order_mode}
use Rattle.inbox.specs.Events.{Step}
use Rattle.inbox.specs.Executions.{Execution, list_from, emitted_list, contents}
use Rattle.inbox.specs.Folds.{fold_rows}
use Rattle.messages.specs.Ids.{IsGiven, message_with_id}
use Rattle.inbox.specs.Instances.{Instance}
use Rattle.inbox.specs.OrderReplicas.{IsOrderOutput, most_taken}
use Rattle.inbox.specs.Wiring.{wiring_of, carried_places}
use Rattle.messages.specs.declared.message.Message.{Message as IdMessage}
use Rattle.messages.specs.declared.message.Message.TheVariants.{Row, Seal}
use Rattle.inbox.proofs.Lists.SequencerLaw.{sequencer_law}
use Rattle.inbox.proofs.Lists.Repeats.{no_repeats-emitted_list}
use Rattle.inbox.proofs.WiringLemmas.{instance-wired, instance-ports, stream-wired, length-below}
use Rattle.inbox.specs.Limits.{message_limit}
use Rattle.messages.specs.Lists.{Listed, AllAreGiven, read_list, read_lists, list_at, total}
use Rattle.sched_net.specs.Net.{BooksStand, execution_in}
use Rattle.inbox.specs.Places.{list_place, list_count}
use Rattle.sched_net.specs.Reading.{AreEmitted, IsOrdered}
use Rattle.sched_net.specs.declared.books.Books.{Books}
use Rattle.sched_net.specs.Seen.{list_seen}
use Rattle.sched_net.proofs.Found.{list_there, no_stream_there, number_of_place}
use Rattle.messages.proofs.ListsLemmas.{given-list, length-read_lists, read-at}
use Rattle.sched_net.proofs.Showing.{emitted_shown}
use Rattle.sched_net.proofs.RecordsCounted.{length-set_of-rows}
use Rattle.sched_net.proofs.SortedRows.{set_of-shown}

-- ---- rows of messages by ids

-- a record of a list is one of the pool
pub row_given : (records : List Record) (list : List IdMessage) (r : Record) → All (IsGiven records) list → Has r (rows_in (read_list records list)) → Has r records
row_given records [] r given h = absurd h
row_given records (Row id ∷ list) r given (inl same) = subst (λ z. Has z records) same (Has-get_or records id [] (given 0 (Row id) (omega arith)))
row_given records (Row id ∷ list) r given (inr h) = row_given records list r (λ k d within. given (suc k) d (omega (arith, within))) h
row_given records (Seal key count ∷ list) r given h = row_given records list r (λ k d within. given (suc k) d (omega (arith, within))) h

-- one message more
rows_more : (records : List Record) (messages : List IdMessage) (i : ℕ) (m : IdMessage) → i < length messages → m ≡ get_or messages i m
    → rows_in (read_list records (take (i + 1) messages)) ≡ rows_in (read_list records (take i messages)) ++ cons_option (row_in (message_with_id records m)) []
rows_more records messages i m within at =
    ap (λ l. rows_in (read_list records l)) (take_more messages i m within)
    ∙ ap (λ z. rows_in (read_list records (take i messages ++ z ∷ []))) (sym at)
    ∙ ap rows_in (map-append (message_with_id records) (take i messages) (m ∷ []))
    ∙ filter_map-append row_in (read_list records (take i messages)) (message_with_id records m ∷ [])

-- and what is lent of it
pub lent_more : (records : List Record) (messages : List IdMessage) (i : ℕ) (refs : List (Bor Record)) (o : Option (Bor Record)) → i < length messages → option_copied o ≡ option_and_then (λ m. row_in (message_with_id records m)) (slice_get messages i)
    → shown refs ≡ rows_in (read_list records (take i messages)) → shown (refs ++ cons_option o []) ≡ rows_in (read_list records (take (i + 1) messages))
lent_more records messages i refs o within lent before = elim (slice_get_cases messages i).1 [
  | inl some ↦
      map-append (λ (z : Bor Record). z.now) refs (cons_option o [])
      ∙ ap (λ l. shown refs ++ l) (copied o)
      ∙ ap (λ l. l ++ cons_option (option_copied o) []) before
      ∙ ap (λ r. rows_in (read_list records (take i messages)) ++ cons_option r []) (lent ∙ ap (option_and_then (λ m. row_in (message_with_id records m))) some.2)
      ∙ sym (rows_more records messages i some.0 within (sym some.3))
  | inr past ↦ absurd (omega (arith, past.0, within))
]
  where
    copied : (o : Option (Bor Record)) → shown (cons_option o []) ≡ cons_option (option_copied o) []
    copied None = refl
    copied (Some r) = refl

-- what follows of a value without a fault
pub if_ok_so : {A E : Type 0} (r : Result A E) (P Q : A → Type 0) → ((a : A) → P a → Q a) → IfOk r P → IfOk r Q
if_ok_so (Ok a) P Q so is = so a is
if_ok_so (Err e) P Q so is = is

-- a list is no longer than all together
pub one_of_total : (lists : List (List IdMessage)) (place : ℕ) → place < length lists → length (list_at lists place) ≤ total lists
one_of_total lists place within = get_or-le-sum_by length lists place [] within

-- nor is one that is found
pub seen_within : (v : View) (lists : List (List IdMessage)) (s r : ℕ) → length (list_seen v lists s r) ≤ total lists
seen_within v lists s r = by_test (nat_lt s (length v.streams) && nat_lt r (stream_replicas v s))
  where
    at : length (list_at lists (list_place v s r)) ≤ total lists
    at = elim (cases_lt (list_place v s r) (length lists)) [
      | inl within ↦ one_of_total lists (list_place v s r) within
      | inr past ↦ (let none : length (list_at lists (list_place v s r)) ≡ 0 = ap (λ (l : List IdMessage). length l) (get_or_past lists (list_place v s r) [] past) in omega (arith, none))
    ]

    by_test : (b : Bool) → length (if b then list_at lists (list_place v s r) else []) ≤ total lists
    by_test true = at
    by_test false = omega arith

-- the records of a list are few enough for a set
pub few_read_rows : (l : Listed) (list : List IdMessage) (rows : List Record) → rows ≡ rows_in (read_list l.records list) → length list ≤ total l.lists → total l.lists ≤ message_limit → length (set_of rows) ≤ row_limit
few_read_rows l list rows are inside few =
    omega (arith, length-set_of-le rows, ap (λ (z : List Record). length z) are, length-rows_in-le (read_list l.records list), length-map list (message_with_id l.records), inside, few)

-- and none of a replica that doesn't send
pub none_past : (v : View) (lists : List (List IdMessage)) (s r : ℕ) → stream_replicas v s ≤ r → list_seen v lists s r ≡ []
none_past v lists s r past =
    ap (λ t. if nat_lt s (length v.streams) && t then list_at lists (list_place v s r) else []) (lt-not r (stream_replicas v s) past)
    ∙ by_test (nat_lt s (length v.streams))
  where
    by_test : (b : Bool) → (if b && false then list_at lists (list_place v s r) else []) ≡ []
    by_test true = refl
    by_test false = refl

-- ---- an emitted list

no_list : (v : View) (given : Data) (x : Execution) (s r : ℕ) → length v.streams ≤ s → emitted_list (wiring_of v) given x s r ≡ []
unfolding wiring_of
no_list v given x s r past = ap (λ (o : Option Stream). option_map_or (λ (line : Stream). list_from line.origin (wiring_of v) given x line s r) o []) (slice_get_past v.streams s past)

module _ (v : View) (given : Data) (steps : List Step) (b : Books) (stand : BooksStand v given steps b) (valid : IsValid v) where
  shown_list : (s r : ℕ) → s < length v.streams → r < stream_replicas v s → list_at (read_lists b.lists) (list_place v s r) ≡ emitted_list (wiring_of v) given (execution_in stand) s r
  shown_list s r there sends = emitted_shown v given (execution_in stand) stand.seats stand.tables (read_lists b.lists) valid stand.stands.stands stand.shows s r there sends

  pub seen_emitted : (s r : ℕ) → r < stream_replicas v s → read_list b.lists.records (list_seen v b.lists.lists s r) ≡ emitted_list (wiring_of v) given (execution_in stand) s r
  seen_emitted s r sends = elim (cases_lt s (length v.streams)) [
    | inl there ↦
        ap (read_list b.lists.records) (list_there v b.lists.lists s r there sends)
        ∙ read-at b.lists.records b.lists.lists (list_place v s r)
        ∙ shown_list s r there sends
    | inr past ↦
        ap (read_list b.lists.records) (no_stream_there v b.lists.lists s r past)
        ∙ sym (no_list v given (execution_in stand) s r past)
  ]

  module _ (s r : ℕ) (sends : r < stream_replicas v s) (list : List IdMessage) (are : list ≡ list_seen v b.lists.lists s r) where
    found : read_list b.lists.records list ≡ emitted_list (wiring_of v) given (execution_in stand) s r
    found = ap (read_list b.lists.records) are ∙ seen_emitted s r sends

    pub seen_length : length list ≡ length (emitted_list (wiring_of v) given (execution_in stand) s r)
    seen_length = sym (length-map list (message_with_id b.lists.records)) ∙ ap (λ (l : List Message). length l) found

    -- as many records as their set has
    pub seen_count : length (rows_in (read_list b.lists.records list)) ≡ length (contents (wiring_of v) given (execution_in stand) s r)
    seen_count =
        ap (λ (l : List Message). length (rows_in l)) found
        ∙ sym (length-set_of-rows (emitted_list (wiring_of v) given (execution_in stand) s r) (no_repeats-emitted_list (wiring_of v) given (execution_in stand) s r))

    -- the record of a message that is found
    pub seen_row : (index : ℕ) → option_and_then (λ m. row_in (message_with_id b.lists.records m)) (slice_get list index) ≡ option_and_then row_in (slice_get (emitted_list (wiring_of v) given (execution_in stand) s r) index)
    seen_row index =
        through (slice_get list index)
        ∙ sym (ap (option_and_then row_in) (slice_get-map (message_with_id b.lists.records) list index))
        ∙ ap (λ (l : List Message). option_and_then row_in (slice_get l index)) found
      where
        through : (o : Option IdMessage) → option_and_then (λ m. row_in (message_with_id b.lists.records m)) o ≡ option_and_then row_in (option_map (message_with_id b.lists.records) o)
        through None = refl
        through (Some m) = refl

    pub seen_contents : (rows : List Record) → rows ≡ rows_in (read_list b.lists.records list) → set_of rows ≡ contents (wiring_of v) given (execution_in stand) s r
    seen_contents rows read = ap set_of read ∙ ap (λ (l : List Message). set_of (rows_in l)) found

    -- each record once
    pub seen_once : (rows : List Record) → rows ≡ rows_in (read_list b.lists.records list) → length (set_of rows) ≡ length rows
    seen_once rows read = ap (λ (l : List Record). length l) (seen_contents rows read) ∙ sym seen_count ∙ sym (ap (λ (l : List Record). length l) read)

    -- so sorted they are their set
    pub seen_sorted : (refs sorted : List (Bor Record)) → shown refs ≡ rows_in (read_list b.lists.records list) → IsPermutation refs sorted → IsSorted (λ x y. record_cmp x.now y.now) sorted → shown sorted ≡ set_of (shown refs)
    seen_sorted refs sorted read moved up = set_of-shown refs sorted moved up (seen_once (shown refs) read)

-- ---- replicas of Order components

pub is_order_output : (v : View) (s r c o : ℕ) (program : Program) → IsValid v → IsOrdered v s r c o program → IsOrderOutput (wiring_of v) s c o r program
is_order_output v s r c o program valid is =
    let ends = valid.numbered.origins s (c, o) is.there is.origin in
    let wired = instance-wired v c r ends.0 is.sends in
    let runs = (valid.components c ends.0).runs program is.body in
    record {
      line = stream_at v s;
      numbered = stream-wired v s is.there;
      origin = is.origin;
      body = ap (λ (i : Instance). i.program) wired ∙ is.body;
      order = ap (λ (i : Instance). is_order_mode i.mode) wired ∙ is.order;
      ports = ap (λ (i : Instance). length i.ports) wired
          ∙ instance-ports v c r
          ∙ sym (length-map (component_at v c).ports (λ port. map Some port.columns))
          ∙ ap (λ (l : List Roots). length l) runs.ports
          ∙ length-map (port_columns program) (attribute_roots v.attributes);
      output_there = subst (λ (i : Instance). o < length i.outputs) (sym wired) (subst (λ n. o < n) (sym (length-below (λ n. option_and_then (carried_places v) (stream_of v c n)) (length (component_at v c).outputs))) ends.1);
    }

module _ (v : View) (given : Data) (steps : List Step) (b : Books) (stand : BooksStand v given steps b) (valid : IsValid v) where
  -- the replica sends
  pub ordered_sends : (s r c o : ℕ) (program : Program) → IsOrdered v s r c o program → r < stream_replicas v s
  ordered_sends s r c o program is = subst (λ n. r < n) (sym (ap (senders_of v) is.origin)) is.sends

  pub seen_in_order : (s r c o : ℕ) (program : Program) (list : List IdMessage) (rows : List Record) → IsOrdered v s r c o program → list ≡ list_seen v b.lists.lists s r → rows ≡ rows_in (read_list b.lists.records list)
      → set_of rows ≡ fold_rows program (take (most_taken ((execution_in stand).lives c r)) ((execution_in stand).logs c)) o
  seen_in_order s r c o program list rows is are read =
      seen_contents v given steps b stand valid s r (ordered_sends s r c o program is) list are rows read
      ∙ sequencer_law (wiring_of v) given (execution_in stand) s c o r program (is_order_output v s r c o program valid is)

  -- ---- all records

  pub seen_records : AllAreGiven b.lists → IsPool b.lists.records → AreEmitted v given (execution_in stand) b.lists.records
  seen_records all pool = record {
    once = pool;
    sound = λ r h.
        let m = stand.exact.emitted r h in
        let within : m.0 < list_count v = omega (arith, m.1, stand.shows.count, length-read_lists b.lists) in
        let at = number_of_place (stream_replicas v) (length v.streams) m.0 within in
        record {
          stream = at.0;
          replica = at.1;
          there = at.2;
          sends = at.3;
          row = subst (λ l. Has r (rows_in l)) (shown_list v given steps b stand valid at.0 at.1 at.2 at.3) (subst (λ n. Has r (rows_in (list_at (read_lists b.lists) n))) (sym at.4) m.2);
        };
    whole = λ r e.
        let at : ℕ = list_place v e.stream e.replica in
        row_given b.lists.records (list_at b.lists.lists at) r (given-list b.lists at all)
        (subst (λ l. Has r (rows_in l)) (sym (read-at b.lists.records b.lists.lists at ∙ shown_list v given steps b stand valid e.stream e.replica e.there e.sends)) e.row);
  }
