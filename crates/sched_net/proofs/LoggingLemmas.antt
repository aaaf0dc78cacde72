-- A message that comes to the log of an Order component makes the books stand for one step more.
use Rattle.std.proofs.Common.{◌≡◌, ◌<◌, ◌≤◌, ◌==◌, ◌&&◌, ℕ, Bool, true, false, List, [], ◌∷◌, ◌++◌, length, set, get_or, refl, ap, sym, subst, ◌∙◌, inl, inr, arith, nat_lt}
use Rattle.std.specs.Prelude.{Result, Ok, Err, Option, None, if◌then◌else◌}
use Rattle.std.proofs.lemmas.Bool.{cases_lt, and_parts, eqb-true, eq-eqb}
use Rattle.std.proofs.lemmas.Bool.Decides.{nat_tests}
use Rattle.std.proofs.lemmas.List.{length-set, get_or-set_same, get_or-set_other, get_or_past}
use Rattle.blz_pool.specs.Pool.{IsPool}
use Rattle.blz_value.specs.Record.{Row as Record}
use Rattle.bloom_forms.specs.declared.program.Program.{Program}
use Rattle.bloom_forms.specs.Step.{Sets}
use Rattle.topo_forms.specs.Data.{Data}
use Rattle.topo_forms.specs.Messages.{Message}
use Rattle.topo_forms.specs.Valid.{IsValid}
use Rattle.topo_forms.specs.View.{View, replicas_of, is_order, is_order_mode}
use Rattle.inbox.specs.Events.{Part, Step, event, order, Refusal, no_instance, no_message}
use Rattle.inbox.specs.Executions.{Execution, result_and_then, pair_of, with_logged, after_event}
use Rattle.messages.specs.Ids.{IsGiven, message_with_id}
use Rattle.inbox.specs.Instances.{Instance}
use Rattle.blz_pool.specs.Entries.{EntryId, entry_with_id, entries_with_ids}
use Rattle.messages.specs.Log.{AreGiven, is_same_entry_id}
use Rattle.messages.specs.Messages.{Pair, is_same_entry, with_new}
use Rattle.inbox.specs.Standing.{Seats}
use Rattle.inbox.specs.Wiring.{nobody, instances_at, instance_at, is_sequencer, wiring_of}
use Rattle.messages.specs.declared.message.Message.{Message as IdMessage}
use Rattle.messages.specs.declared.message.Message.TheVariants.{Row, Seal}
use Rattle.inbox.proofs.Executions.Standing.{stands_ordering}
use Rattle.messages.proofs.LogLemmas.{is_same_entry_id-is, is_same_entry_id-itself, one_id, with_new-with_ids}
use Rattle.messages.proofs.MessagesLemmas.{Has-from_with_new}
use Rattle.inbox.proofs.WiringLemmas.{instance-wired, length-below}
use Rattle.sched_net.specs.Answers.{answer_to}
use Rattle.messages.specs.Lists.{IsExact, read_lists, list_at}
use Rattle.sched_net.specs.Net.{Stands, ShowSeats, ShowLogs, EventAnswers, execution_in}
use Rattle.inbox.specs.Places.{ArePlaces}
use Rattle.sched_net.specs.Shown.{ShowsSeats}
use Rattle.sched_net.specs.Code.Hearing.{EventLeavesOpen}
use Rattle.sched_net.specs.Code.Parts.{PairAnswers}
use Rattle.sched_net.specs.Taking.{has_log, log_with, LogGets}
use Rattle.sched_net.specs.declared.books.Books.{Books}
use Rattle.messages.specs.declared.fault.EventFault.{EventFault}
use Rattle.messages.specs.declared.fault.EventFault.TheVariants.{NoInstance, NoMessage, NothingToTake, TooManyRows, TooManyMessages, NoMemory}

-- ---- who has a log

no_instances : (v : View) (c : ℕ) → length v.components ≤ c → instances_at (wiring_of v) c ≡ []
unfolding wiring_of
no_instances v c past =
    let many : length (wiring_of v).components ≡ length v.components = length-below _ (length v.components) in
    get_or_past (wiring_of v).components c [] (omega (arith, many, past))

pub log_tested : (v : View) (c : ℕ) → IsValid v → is_sequencer (wiring_of v) c ≡ has_log v c
log_tested v c valid = elim (cases_lt c (length v.components)) [
  | inl there ↦
      let some = (valid.components c there).some_replica in
      let first : 0 < replicas_of v c = omega (arith, some) in
      let here : nat_lt c (length v.components) ≡ true = grind (arith, nat_tests) in
      ap (λ (i : Instance). is_order_mode i.mode) (instance-wired v c 0 there first) ∙ ap (λ b. b && is_order v c) (sym here)
  | inr past ↦
      let out : nat_lt c (length v.components) ≡ false = grind (arith, nat_tests) in
      ap (λ (l : List Instance). is_order_mode (get_or l 0 nobody).mode) (no_instances v c past) ∙ ap (λ b. b && is_order v c) (sym out)
]

pub record HasLog (v : View) (c : ℕ) : Type 0 where
  pub there : c < length v.components
  pub first : 0 < replicas_of v c

pub log_there : (v : View) (c : ℕ) → IsValid v → has_log v c ≡ true → HasLog v c
log_there v c valid is =
    let here : c < length v.components = below c (length v.components) (and_parts (nat_lt c (length v.components)) (is_order v c) is).0 in
    let some = (valid.components c here).some_replica in
    record { there = here; first = omega (arith, some) }
  where
    below : (n m : ℕ) → nat_lt n m ≡ true → n < m
    below n m e = grind (arith, nat_tests)

pub not_logging : (v : View) (given : Data) (c : ℕ) (part : Part) (x : Execution) → IsValid v → has_log v c ≡ false → after_event (wiring_of v) given (order part c) x ≡ Err no_instance
not_logging v given c part x valid off =
    ap (λ b. if b then result_and_then (pair_of (wiring_of v) given x (instance_at (wiring_of v) c 0) part) (λ pair. Ok (with_logged c part.port pair.1 x)) else Err no_instance) (log_tested v c valid ∙ off)

logging : (v : View) (given : Data) (c : ℕ) (part : Part) (x : Execution) (asked : Result Pair Refusal) → IsValid v → has_log v c ≡ true → pair_of (wiring_of v) given x (instance_at (wiring_of v) c 0) part ≡ asked
    → after_event (wiring_of v) given (order part c) x ≡ result_and_then asked (λ pair. Ok (with_logged c part.port pair.1 x))
logging v given c part x asked valid on is =
    ap (λ b. if b then result_and_then (pair_of (wiring_of v) given x (instance_at (wiring_of v) c 0) part) (λ pair. Ok (with_logged c part.port pair.1 x)) else Err no_instance) (log_tested v c valid ∙ on)
    ∙ ap (λ a. result_and_then a (λ pair. Ok (with_logged c part.port pair.1 x))) is

-- ---- where it is refused

pub answers_unlogged : (v : View) (loaded : List (Option Program)) (tables : List Sets) (b : Books) (c : ℕ) (part : Part) → IsValid v → has_log v c ≡ false → EventAnswers v loaded tables b (order part c) (Err NoInstance)
answers_unlogged v loaded tables b c part valid off given steps stands other = sym (ap (λ after. answer_to after None) (not_logging v given c part (execution_in stands.books) valid off))

pub logging_refused : (v : View) (loaded : List (Option Program)) (tables : List Sets) (b : Books) (c : ℕ) (part : Part) (fault : EventFault) → IsValid v → has_log v c ≡ true → PairAnswers v b c 0 part (Err fault) → EventAnswers v loaded tables b (order part c) (Err fault)
logging_refused v loaded tables b c part NoInstance valid on answers given steps stands =
    λ other. ap (λ after. answer_to after None) (sym (logging v given c part (execution_in stands.books) (Err no_instance) valid on (answers given steps stands.books)))
logging_refused v loaded tables b c part NoMessage valid on answers given steps stands =
    λ other. ap (λ after. answer_to after None) (sym (logging v given c part (execution_in stands.books) (Err no_message) valid on (answers given steps stands.books)))
logging_refused v loaded tables b c part NothingToTake valid on answers given steps stands = absurd (answers given steps stands.books)
logging_refused v loaded tables b c part TooManyRows valid on answers given steps stands = absurd (answers given steps stands.books)
logging_refused v loaded tables b c part TooManyMessages valid on answers given steps stands = absurd (answers given steps stands.books)
logging_refused v loaded tables b c part NoMemory valid on answers given steps stands = λ other. absurd (other refl)

-- ---- where it is done

-- a log with a message at its end reads as that of the execution
log_read : (records : List Record) (c n port : ℕ) (m : IdMessage) (log : List EntryId) (x : Execution) (own : Bool) → IsPool records → AreGiven records log → IsGiven records m → (n == c) ≡ own → entries_with_ids records log ≡ x.logs n
    → entries_with_ids records (if own then log_with port m log else log) ≡ (with_logged c port (message_with_id records m) x).logs n
log_read records c n port (Row id) log x true pool given here is same =
    with_new-with_ids records log (port, id) (one_id records pool id here) given
    ∙ ap (λ l. with_new is_same_entry l (entry_with_id records (port, id))) same
    ∙ sym (ap (λ t. if t then with_new is_same_entry (x.logs n) (entry_with_id records (port, id)) else x.logs n) is)
log_read records c n port (Row id) log x false pool given here is same =
    same ∙ sym (ap (λ t. if t then with_new is_same_entry (x.logs n) (entry_with_id records (port, id)) else x.logs n) is)
log_read records c n port (Seal key count) log x true pool given here is same = same
log_read records c n port (Seal key count) log x false pool given here is same = same

given_with : (records : List Record) (port : ℕ) (m : IdMessage) (log : List EntryId) → AreGiven records log → IsGiven records m → AreGiven records (log_with port m log)
given_with records port (Row id) log given here entry h = elim (Has-from_with_new is_same_entry_id is_same_entry_id-is is_same_entry_id-itself entry (port, id) log h) [
  | inl old ↦ given entry old
  | inr new ↦ subst (λ (e : EntryId). e.1 < length records) new here
]
given_with records port (Seal key count) log given here entry h = given entry h

-- one of the logs
log_at : (c n port : ℕ) (m : IdMessage) (logs new : List (List EntryId)) (own : Bool) → LogGets c port m logs new → c < length logs → (n == c) ≡ own → list_at new n ≡ (if own then log_with port m (list_at logs n) else list_at logs n)
log_at c n port m logs new true gets inside is =
    let same : c ≡ n = sym (eqb-true n c is) in
    ap (λ l. list_at l n) gets
    ∙ ap (λ k. list_at (set logs c (log_with port m (list_at logs c))) k) (sym same)
    ∙ get_or-set_same logs c (log_with port m (list_at logs c)) [] inside
    ∙ ap (λ k. log_with port m (list_at logs k)) same
log_at c n port m logs new false gets inside is =
    ap (λ l. list_at l n) gets
    ∙ get_or-set_other logs c n (log_with port m (list_at logs c)) [] (λ same. differ is (eq-eqb n c same))
  where
    differ : {b : Bool} → b ≡ false → b ≡ true → ⊥
    differ {b} e f = let no : false ≡ true = sym e ∙ f in cc

module _ (v : View) (given : Data) (steps : List Step) (loaded : List (Option Program)) (tables : List Sets) (b new : Books) (valid : IsValid v) (stands : Stands v given steps loaded tables b) (c : ℕ) (part : Part) (feed : ℕ) (m : IdMessage) (on : has_log v c ≡ true) (answers : PairAnswers v b c 0 part (Ok (feed, m))) where
  abbrev x : Execution
  x = execution_in stands.books

  abbrev message : Message
  message = message_with_id b.lists.records m

  legal : after_event (wiring_of v) given (order part c) x ≡ Ok (with_logged c part.port message x)
  legal = logging v given c part x (Ok (feed, message)) valid on (answers given steps stands.books)

  given_if : IsGiven b.lists.records m → (n : ℕ) → n < length v.components → (own : Bool) → AreGiven b.lists.records (if own then log_with part.port m (list_at b.logs.items n) else list_at b.logs.items n)
  given_if here n there true = given_with b.lists.records part.port m (list_at b.logs.items n) (stands.books.logs.given n there) here
  given_if here n there false = stands.books.logs.given n there

  pub logging_stands : IsPool b.lists.records → IsGiven b.lists.records m → LogGets c part.port m b.logs.items new.logs.items → new.lists ≡ b.lists → new.places ≡ b.places → new.seats ≡ b.seats → new.ended ≡ b.ended
      → Stands v given (steps ++ event (order part c) ∷ []) loaded tables new
  logging_stands pool here gets lists places seats ended =
      let books = stands.books in
      let after : Seats = record { seats = books.seats.seats; logs = (with_logged c part.port message x).logs } in
      let inside : c < length b.logs.items = subst (λ n. c < n) (sym books.logs.count) (log_there v c valid on).there in
      let own = λ (n : ℕ). log_at c n part.port m b.logs.items new.logs.items (n == c) gets inside refl in
      let shown : ShowsSeats v given after books.tables (read_lists b.lists) = record {
        shells = books.shows.shells;
        count = books.shows.count;
        tables_are = books.shows.tables_are;
        outputs = books.shows.outputs;
        sources = books.shows.sources;
      } in
      let instances : ShowSeats v b.lists after b.seats.items = record { count = books.instances.count; each = books.instances.each } in
      let logs : ShowLogs v b.lists.records after new.logs.items = record {
        count = ap (λ (l : List (List EntryId)). length l) gets ∙ length-set b.logs.items c (log_with part.port m (list_at b.logs.items c)) ∙ books.logs.count;
        each = λ n there.
            ap (entries_with_ids b.lists.records) (own n)
            ∙ log_read b.lists.records c n part.port m (list_at b.logs.items n) x (n == c) pool (books.logs.given n there) here refl (books.logs.each n there ∙ books.stands.stands.logs n);
        given = λ n there. subst (AreGiven b.lists.records) (sym (own n)) (given_if here n there (n == c));
      } in
      record {
        books = record {
          fits = books.fits;
          bodies = books.bodies;
          seats = after;
          tables = books.tables;
          stands = stands_ordering (wiring_of v) given steps (event (order part c)) books.seats after books.stands c part.port message legal (λ n r. refl) (λ n. refl);
          shows = subst (λ l. ShowsSeats v given after books.tables (read_lists l)) (sym lists) shown;
          exact = subst (λ l. IsExact l) (sym lists) books.exact;
          places = subst (λ p. ArePlaces v p) (sym places) books.places;
          instances = subst (λ l. ShowSeats v l after new.seats.items) (sym lists) (subst (λ s. ShowSeats v b.lists after s.items) (sym seats) instances);
          logs = subst (λ l. ShowLogs v l.records after new.logs.items) (sym lists) logs;
          runs = ended ∙ books.runs;
        };
        tables_are = stands.tables_are;
        programs = stands.programs;
      }

pub answers_logged : (v : View) (loaded : List (Option Program)) (tables : List Sets) (b : Books) (c : ℕ) (part : Part) (feed : ℕ) (m : IdMessage) → IsValid v → has_log v c ≡ true → PairAnswers v b c 0 part (Ok (feed, m)) → EventAnswers v loaded tables b (order part c) (Ok tt)
answers_logged v loaded tables b c part feed m valid on answers given steps stands other =
    sym (ap (λ after. answer_to after None) (logging v given c part (execution_in stands.books) (Ok (feed, message_with_id b.lists.records m)) valid on (answers given steps stands.books)))

pub leaves_logged : (v : View) (loaded : List (Option Program)) (tables : List Sets) (b new : Books) (c : ℕ) (part : Part) (feed : ℕ) (m : IdMessage) → IsValid v → has_log v c ≡ true → PairAnswers v b c 0 part (Ok (feed, m))
    → IsPool b.lists.records → IsGiven b.lists.records m → LogGets c part.port m b.logs.items new.logs.items → new.lists ≡ b.lists → new.places ≡ b.places → new.seats ≡ b.seats → new.ended ≡ b.ended
    → EventLeavesOpen v loaded tables tables b new (order part c) (Ok tt)
leaves_logged v loaded tables b new c part feed m valid on answers pool here gets lists places seats ended given steps stands =
    logging_stands v given steps loaded tables b new valid stands c part feed m on answers pool here gets lists places seats ended
