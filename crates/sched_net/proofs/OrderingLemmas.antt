-- A replica that takes the next entry of its log, and emits what it sets off, stands for one step more.
use Rattle.std.proofs.Common.{◌≡◌, ◌<◌, ◌≤◌, ◌+◌, ◌&&◌, ℕ, Bool, true, false, Option, None, Some, List, [], ◌∷◌, ◌++◌, length, set, get_or, slice_get, refl, ap, sym, subst, ◌∙◌, inl, inr, arith, nat_lt}
use Rattle.std.specs.Prelude.{Ok, Err, if◌then◌else◌}
use Rattle.std.specs.Option.{option_map}
use Rattle.std.proofs.lemmas.Bool.{cases_lt, and_parts}
use Rattle.std.proofs.lemmas.Bool.Decides.{nat_tests}
use Rattle.std.proofs.lemmas.List.{get_or_past}
use Rattle.std.proofs.lemmas.Option.{slice_get_within, slice_get_cases, get_or_from_slice_get, slice_get-get_or, slice_get-map}
use Rattle.blz_value.proofs.Lists.{lt-is, lt-not}
use Rattle.bloom_eval.specs.Step.{Arrive}
use Rattle.blz_pool.specs.Pool.{IsPool}
use Rattle.bloom_forms.specs.declared.program.Program.{Program}
use Rattle.bloom_forms.specs.Step.{Sets}
use Rattle.topo_forms.specs.Data.{Data}
use Rattle.topo_forms.specs.Valid.{IsValid}
use Rattle.topo_forms.specs.View.{View, component_at, program_of, replicas_of, is_order, is_order_mode}
use Rattle.inbox.specs.Emission.{emit}
use Rattle.inbox.specs.Events.{Step, event, take_one, no_instance, nothing_to_take}
use Rattle.inbox.specs.Executions.{Execution, with_lives, after_event, after_taking}
use Rattle.inbox.specs.Growth.{Continues}
use Rattle.inbox.specs.Instances.{Instance}
use Rattle.inbox.specs.Lives.{take_entry, of_entry}
use Rattle.blz_pool.specs.Entries.{EntryId, entry_with_id, entries_with_ids}
use Rattle.messages.specs.Messages.{Entry}
use Rattle.inbox.specs.Standing.{Seat, Seats}
use Rattle.inbox.specs.Wiring.{instance_at, is_there, wiring_of}
use Rattle.inbox.proofs.Executions.Standing.{seat_takes}
use Rattle.inbox.proofs.WiringLemmas.{instance-wired, there-wired, instance-ports, length-below}
use Rattle.inbox.specs.Limits.{Limit, limit_at, limit_of_event, limit_of_taking}
use Rattle.messages.specs.Lists.{Listed, IsExact, read_lists, list_at}
use Rattle.sched_net.specs.Net.{Stands, BooksStand, ShowsSeat, ShowsEar, ShowSeats, ShowLogs, execution_in}
use Rattle.inbox.specs.Places.{ArePlaces, instance_place}
use Rattle.inbox.specs.Outlets.{OthersStay, outlets_for}
use Rattle.sched_net.specs.Seated.{with_seat}
use Rattle.inbox.specs.Running.{EmitsAt, MeetsAt}
use Rattle.sched_net.specs.Taking.{takes_itself, taken_in, IsNext, entry_sets_off, EarChanges, took_one}
use Rattle.sched_net.specs.declared.books.Books.{Books}
use Rattle.sched_net.specs.declared.seated.Ear.{Ear}
use Rattle.sched_net.specs.declared.seated.Ear.TheVariants.{Hears, Takes}
use Rattle.sched_net.specs.declared.seated.Seated.{Seated}
use Rattle.sched_net.proofs.ArrivingLemmas.{taking_arrives}
use Rattle.sched_net.proofs.CourseLemmas.{HasEmittedAt, meets_at, emits_at, program_here}
use Rattle.sched_net.proofs.Lifting.{taking_lifts}
use Rattle.inbox.proofs.PlacesLemmas.{place-before}
use Rattle.sched_net.proofs.SeatsLemmas.{later_pool, logs_stay, seats_after}
use Rattle.sched_net.proofs.Showing.{is_there-true}

-- ---- who takes

no_component_there : (v : View) (c r : ℕ) → length v.components ≤ c → is_there (wiring_of v) c r ≡ false
unfolding wiring_of
no_component_there v c r past =
    let many : length (wiring_of v).components ≡ length v.components = length-below _ (length v.components) in
    ap (λ (l : List Instance). nat_lt r (length l)) (get_or_past (wiring_of v).components c [] (omega (arith, many, past))) ∙ lt-not r 0 (omega arith)

-- whether an instance is there
pub there_tested : (v : View) (c r : ℕ) → is_there (wiring_of v) c r ≡ (nat_lt c (length v.components) && nat_lt r (replicas_of v c))
there_tested v c r = elim (cases_lt c (length v.components)) [
  | inl there ↦ there-wired v c r there ∙ ap (λ b. b && nat_lt r (replicas_of v c)) (sym (lt-is c (length v.components) there))
  | inr past ↦ no_component_there v c r past ∙ ap (λ b. b && nat_lt r (replicas_of v c)) (sym (lt-not c (length v.components) past))
]

pub takes_tested : (v : View) (c r : ℕ) → (is_there (wiring_of v) c r && is_order_mode (instance_at (wiring_of v) c r).mode) ≡ takes_itself v c r
takes_tested v c r = elim (cases_lt c (length v.components)) [
  | inl there ↦ elim (cases_lt r (replicas_of v c)) [
    | inl within ↦
        ap (λ b. b && is_order_mode (instance_at (wiring_of v) c r).mode) (is_there-true v c r there within)
        ∙ ap (λ (i : Instance). is_order_mode i.mode) (instance-wired v c r there within)
        ∙ sym (ap (λ b. b && (nat_lt r (replicas_of v c) && is_order v c)) (lt-is c (length v.components) there) ∙ ap (λ b. b && is_order v c) (lt-is r (replicas_of v c) within))
    | inr out ↦
        ap (λ b. b && is_order_mode (instance_at (wiring_of v) c r).mode) (there-wired v c r there ∙ lt-not r (replicas_of v c) out)
        ∙ sym (ap (λ b. b && (nat_lt r (replicas_of v c) && is_order v c)) (lt-is c (length v.components) there) ∙ ap (λ b. b && is_order v c) (lt-not r (replicas_of v c) out))
  ]
  | inr past ↦
      ap (λ b. b && is_order_mode (instance_at (wiring_of v) c r).mode) (no_component_there v c r past)
      ∙ sym (ap (λ b. b && (nat_lt r (replicas_of v c) && is_order v c)) (lt-not c (length v.components) past))
]

-- the parts of the test
pub record TakesThere (v : View) (c r : ℕ) : Type 0 where
  pub there : c < length v.components
  pub within : r < replicas_of v c
  pub order : is_order v c ≡ true

pub takes_there : (v : View) (c r : ℕ) → takes_itself v c r ≡ true → TakesThere v c r
takes_there v c r is =
    let first = and_parts (nat_lt c (length v.components)) (nat_lt r (replicas_of v c) && is_order v c) is in
    let second = and_parts (nat_lt r (replicas_of v c)) (is_order v c) first.1 in
    record { there = below c (length v.components) first.0; within = below r (replicas_of v c) second.0; order = second.1 }
  where
    below : (n m : ℕ) → nat_lt n m ≡ true → n < m
    below n m e = grind (arith, nat_tests)

pub not_taking : (v : View) (given : Data) (c r : ℕ) (x : Execution) → takes_itself v c r ≡ false → after_event (wiring_of v) given (take_one c r) x ≡ Err no_instance
not_taking v given c r x off = ap (λ b. if b then after_taking c r x else Err no_instance) (takes_tested v c r ∙ off)

order_ear : (v : View) (l : Listed) (c r : ℕ) (seat : Seat) (ear : Ear) → is_order v c ≡ true → ShowsEar v l c r seat ear → taken_in ear ≡ seat.taken
order_ear v l c r seat (Hears inbox known) order s = absurd (differ s.hears order)
  where
    differ : {b : Bool} → b ≡ false → b ≡ true → ⊥
    differ {b} e f = let no : false ≡ true = sym e ∙ f in cc
order_ear v l c r seat (Takes taken) order s = s.1

-- the book of an instance
pub seat_at : (v : View) (given : Data) (steps : List Step) (b : Books) (stand : BooksStand v given steps b) (c r : ℕ) → c < length v.components → r < replicas_of v c → (seat : Seated) × (slice_get b.seats.items (instance_place v c r) ≡ Some seat) × ShowsSeat v b.lists c r (stand.seats.seats c r) seat
seat_at v given steps b stand c r there within = by_length b.seats.items refl
  where
    by_length : (items : List Seated) → items ≡ b.seats.items → (seat : Seated) × (slice_get b.seats.items (instance_place v c r) ≡ Some seat) × ShowsSeat v b.lists c r (stand.seats.seats c r) seat
    by_length [] is =
        absurd (let before = place-before (replicas_of v) c r (length v.components) within there in let none : 0 ≡ length b.seats.items = ap (λ (l : List Seated). length l) is in let count = stand.instances.count in omega (arith, before, none, count))
    by_length (first ∷ rest) is =
        let before = place-before (replicas_of v) c r (length v.components) within there in
        let inside : instance_place v c r < length b.seats.items = subst (λ n. instance_place v c r < n) (sym stand.instances.count) before in
        let at = slice_get-get_or b.seats.items (instance_place v c r) first inside in
        (get_or b.seats.items (instance_place v c r) first, at, stand.instances.each c r (get_or b.seats.items (instance_place v c r) first) there within at)

-- ---- an instance that takes

module _ (v : View) (given : Data) (steps : List Step) (loaded : List (Option Program)) (tables : List Sets) (b : Books) (valid : IsValid v) (stands : Stands v given steps loaded tables b) (c r : ℕ) (takes : takes_itself v c r ≡ true) where
  parts : TakesThere v c r
  parts = takes_there v c r takes

  abbrev x : Execution
  x = execution_in stands.books

  logs_are : entries_with_ids b.lists.records (list_at b.logs.items c) ≡ x.logs c
  logs_are = stands.books.logs.each c parts.there ∙ stands.books.stands.stands.logs c

  taken_is : (seat : Seated) → slice_get b.seats.items (instance_place v c r) ≡ Some seat → taken_in seat.ear ≡ (x.lives c r).last.taken
  taken_is seat at =
      order_ear v b.lists c r (stands.books.seats.seats c r) seat.ear parts.order (stands.books.instances.each c r seat parts.there parts.within at).ear
      ∙ (stands.books.stands.stands.seats c r (is_there-true v c r parts.there parts.within)).taken

  -- the next entry, read in the pool
  pub next_read : (entry : Option EntryId) → IsNext b c (instance_place v c r) entry → option_map (entry_with_id b.lists.records) entry ≡ slice_get ((execution_in stands.books).logs c) ((execution_in stands.books).lives c r).last.taken
  next_read entry next =
      let own = seat_at v given steps b stands.books c r parts.there parts.within in
      ap (option_map (entry_with_id b.lists.records)) (next own.0 own.1)
      ∙ sym (slice_get-map (entry_with_id b.lists.records) (list_at b.logs.items c) (taken_in own.0.ear))
      ∙ ap (λ l. slice_get l (taken_in own.0.ear)) logs_are
      ∙ ap (slice_get (x.logs c)) (taken_is own.0 own.1)

  taking_test : (test : Bool) → nat_lt (x.lives c r).last.taken (length (x.logs c)) ≡ test → after_event (wiring_of v) given (take_one c r) x ≡ (if test then Ok (with_lives c r take_entry x) else Err nothing_to_take)
  taking_test test is =
      ap (λ t. if t then after_taking c r x else Err no_instance) (takes_tested v c r ∙ takes)
      ∙ ap (λ t. if t then Ok (with_lives c r take_entry x) else Err nothing_to_take) is

  -- there is none
  pub nothing_taken : IsNext b c (instance_place v c r) None → after_event (wiring_of v) given (take_one c r) (execution_in stands.books) ≡ Err nothing_to_take
  nothing_taken next = taking_test false (past (x.logs c) (x.lives c r).last.taken (sym (next_read None next)))
    where
      past : (log : List Entry) (n : ℕ) → slice_get log n ≡ None → nat_lt n (length log) ≡ false
      past log n none = elim (slice_get_cases log n).1 [
        | inl at ↦ (let no : Some at.0 ≡ None = sym at.2 ∙ none in cc)
        | inr out ↦ lt-not n (length log) out.0
      ]

  -- there is one
  module _ (entry : EntryId) (next : IsNext b c (instance_place v c r) (Some entry)) where
    abbrev own_entry : Entry
    own_entry = entry_with_id b.lists.records entry

    is_next : slice_get (x.logs c) (x.lives c r).last.taken ≡ Some own_entry
    is_next = sym (next_read (Some entry) next)

    inside : (x.lives c r).last.taken < length (x.logs c)
    inside = slice_get_within (x.logs c) (x.lives c r).last.taken own_entry is_next

    legal : after_event (wiring_of v) given (take_one c r) x ≡ Ok (with_lives c r take_entry x)
    legal = taking_test true (lt-is (x.lives c r).last.taken (length (x.logs c)) inside)

    order_here : is_order_mode (instance_at (wiring_of v) c r).mode ≡ true
    order_here = ap (λ (i : Instance). is_order_mode i.mode) (instance-wired v c r parts.there parts.within) ∙ parts.order

    ports_here : length (instance_at (wiring_of v) c r).ports ≡ length (component_at v c).ports
    ports_here = ap (λ (i : Instance). length i.ports) (instance-wired v c r parts.there parts.within) ∙ instance-ports v c r

    set_off_is : of_entry (instance_at (wiring_of v) c r) own_entry ≡ entry_sets_off b.lists.records (length (component_at v c).ports) entry
    set_off_is = ap (λ n. entry_sets_off b.lists.records n entry) ports_here

    -- its timestep arrives at the shell
    pub entry_arrives : Arrive (get_or loaded (instance_place v c r) None) (get_or (entry_sets_off b.lists.records (length (component_at v c).ports) entry).steps 0 [])
    entry_arrives =
        subst (λ o. Arrive o (get_or (entry_sets_off b.lists.records (length (component_at v c).ports) entry).steps 0 [])) (sym (program_here v given steps loaded tables b valid stands c r parts.there parts.within))
        (subst (λ s. Arrive (program_of v c) (get_or s.steps 0 [])) set_off_is
        (taking_arrives v given steps (event (take_one c r)) x valid stands.books.fits stands.books.stands.run c r parts.there parts.within own_entry legal order_here inside
        (get_or_from_slice_get (x.logs c) (x.lives c r).last.taken own_entry own_entry is_next)))

    limit_is : limit_of_event (wiring_of v) given (take_one c r) x ≡ limit_at (wiring_of v) given x c r (entry_sets_off b.lists.records (length (component_at v c).ports) entry)
    limit_is = ap (limit_of_taking (wiring_of v) given x c r) is_next ∙ ap (limit_at (wiring_of v) given x c r) set_off_is

    pub legal_taking : after_event (wiring_of v) given (take_one c r) (execution_in stands.books) ≡ Ok (with_lives c r take_entry (execution_in stands.books))
    legal_taking = legal

    pub taking_meets : (limit : Limit) → MeetsAt limit loaded (instance_place v c r) (outlets_for v c r) tables (read_lists b.lists) (entry_sets_off b.lists.records (length (component_at v c).ports) entry)
        → limit_of_event (wiring_of v) given (take_one c r) (execution_in stands.books) ≡ Some limit
    taking_meets limit meets = limit_is ∙ meets_at v given steps loaded tables b valid stands c r parts.there parts.within limit (entry_sets_off b.lists.records (length (component_at v c).ports) entry) meets

    module _ (nexts : List Sets) (new : Books) (emits : EmitsAt loaded (instance_place v c r) (outlets_for v c r) tables nexts (read_lists b.lists) (read_lists new.lists) (entry_sets_off b.lists.records (length (component_at v c).ports) entry)) where
      abbrev emitted_tables : Sets
      emitted_tables = (emit (instance_at (wiring_of v) c r) (stands.books.seats.seats c r).kept (of_entry (instance_at (wiring_of v) c r) own_entry)).tables

      done : HasEmittedAt v given (execution_in stands.books) (stands.books.seats.seats c r).kept c r stands.books.tables nexts (read_lists new.lists) (of_entry (instance_at (wiring_of v) c r) own_entry)
      done = subst (λ s. HasEmittedAt v given (execution_in stands.books) (stands.books.seats.seats c r).kept c r stands.books.tables nexts (read_lists new.lists) s) (sym set_off_is)
          (emits_at v given steps loaded tables b valid stands c r parts.there parts.within nexts (read_lists new.lists) (entry_sets_off b.lists.records (length (component_at v c).ports) entry) emits)

      pub taking_fits : limit_of_event (wiring_of v) given (take_one c r) (execution_in stands.books) ≡ None
      taking_fits = limit_is ∙ ap (limit_at (wiring_of v) given x c r) (sym set_off_is) ∙ done.limit

      pub taking_stands : Continues b.lists.records new.lists.records → IsPool new.lists.records → IsExact new.lists → OthersStay (outlets_for v c r) (read_lists b.lists) (read_lists new.lists)
          → EarChanges (instance_place v c r) took_one b.seats.items new.seats.items → new.places ≡ b.places → new.logs ≡ b.logs → new.ended ≡ b.ended
          → Stands v given (steps ++ event (take_one c r) ∷ []) loaded nexts new
      taking_stands more pool exact stay ear places logs ended =
          let books = stands.books in
          let seat : Seat = seat_takes (instance_at (wiring_of v) c r) own_entry (books.seats.seats c r) in
          let after : Seats = with_seat c r seat books.seats in
          let own = seat_at v given steps b books c r parts.there parts.within in
          let changed = ear.is own.0 own.1 in
          let later = later_pool b.lists.records new.lists.records more pool in
          let taken : (books.seats.seats c r).taken ≡ (x.lives c r).last.taken = (books.stands.stands.seats c r (is_there-true v c r parts.there parts.within)).taken in
          let log : books.seats.logs c ≡ x.logs c = books.stands.stands.logs c in
          let lifts = taking_lifts v given steps (event (take_one c r)) books.seats books.tables (read_lists b.lists) valid books.stands books.shows c r parts.there parts.within emitted_tables (read_lists new.lists) stay own_entry legal order_here
          (subst (λ n. n < length (books.seats.logs c)) (sym taken) (subst (λ l. (x.lives c r).last.taken < length l) (sym log) inside))
          (ap (λ n. get_or (books.seats.logs c) n own_entry) taken ∙ ap (λ l. get_or l (x.lives c r).last.taken own_entry) log ∙ get_or_from_slice_get (x.logs c) (x.lives c r).last.taken own_entry own_entry is_next)
          done.own refl in
          let shows_own : ShowsSeat v new.lists c r seat ear.seat =
          subst (λ z. ShowsSeat v new.lists c r seat z) (sym changed)
          (record {
            outlets = own.2.outlets;
            feeds = own.2.feeds;
            ear = (parts.order, ap (λ n. n + 1) (order_ear v b.lists c r (books.seats.seats c r) own.0.ear parts.order own.2.ear));
          }) in
          record {
            books = record {
              fits = books.fits;
              bodies = books.bodies;
              seats = after;
              tables = set books.tables (instance_place v c r) emitted_tables;
              stands = lifts.stands;
              shows = lifts.shows;
              exact = exact;
              places = subst (λ p. ArePlaces v p) (sym places) books.places;
              instances =
                  subst (λ l. ShowSeats v new.lists after l) (sym ear.changed)
                  (seats_after v given steps (event (take_one c r)) books.seats books.tables (set books.tables (instance_place v c r) emitted_tables) b.lists new.lists b.seats.items c r seat ear.seat valid parts.there parts.within
                  books.stands books.shows lifts later books.instances shows_own);
              logs = subst (λ l. ShowLogs v new.lists.records after l.items) (sym logs) (logs_stay v b.lists.records new.lists.records books.seats after b.logs.items later (λ n. refl) books.logs);
              runs = ended ∙ books.runs;
            };
            tables_are = done.changed;
            programs = stands.programs;
          }
