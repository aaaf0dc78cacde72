-- A net whose instance heard a batch, and emitted what it set off, stands for one step more, or met the limit that the event meets first.
-- The pairs of the parts are those of the execution; so the event is legal, and its timesteps arrive at what the component runs.
-- The shell and the lists take the course of the instance (Emits), or meet its limit (MeetsFirst).
-- Then the seats with the one that heard stand for the step (hearing_lifts), and the books show them, each by the later pool and the longer lists.
use Rattle.std.proofs.Common.{◌≡◌, ◌<◌, ◌-◌, ℕ, true, false, Option, None, Some, List, [], ◌∷◌, ◌++◌, length, map, set, get_or, slice_get, refl, ap, ◌∙◌, sym, subst}
use Rattle.std.specs.Prelude.{Result, Ok, Err, IsSome}
use Rattle.std.specs.List.{All}
use Rattle.std.proofs.lemmas.List.{length-map, length-set, get_or-set_same}
use Rattle.std.proofs.lemmas.Option.{slice_get-get_or}
use Rattle.bloom_eval.specs.Step.{Arrive}
use Rattle.blz_pool.specs.Pool.{IsPool}
use Rattle.blz_value.specs.Members.{Has}
use Rattle.blz_value.specs.Record.{Row}
use Rattle.blz_value.proofs.Membership.{Has-get_or}
use Rattle.bloom_forms.specs.declared.program.Program.{Program}
use Rattle.bloom_forms.specs.Step.{Sets}
use Rattle.topo_forms.specs.Data.{Data}
use Rattle.topo_forms.specs.Valid.{IsValid}
use Rattle.topo_forms.specs.View.{View, program_of, replicas_of}
use Rattle.messages.specs.Messages.{all_pairs}
use Rattle.inbox.specs.Emission.{Kept, emit}
use Rattle.messages.specs.Ids.{IsGiven, batch_with_ids}
use Rattle.inbox.specs.Instances.{Instance}
use Rattle.inbox.specs.Lives.{hear_batch}
use Rattle.inbox.specs.Timesteps.{SetOff, set_off}
use Rattle.inbox.specs.Wiring.{wiring_of, instance_at, instance_for, feeds_for}
use Rattle.inbox.specs.Growth.{Continues}
use Rattle.inbox.specs.Executions.{Execution, with_lives, after_event, pairs_of}
use Rattle.inbox.specs.Events.{Part, Event, Step, event}
use Rattle.inbox.specs.Pools.{IsLater}
use Rattle.inbox.specs.Standing.{Seat, SeatStandsFor}
use Rattle.messages.specs.declared.message.Message.{Message as IdMessage}
use Rattle.inbox.proofs.Executions.Standing.{seat_hears}
use Rattle.inbox.proofs.WiringLemmas.{instance-wired}
use Rattle.sched_net.specs.Answers.{Answers, answer_to, answer_at, fault_at}
use Rattle.inbox.specs.Limits.{Limit, limit_of, limit_at, limit_of_event, limit_of_pairs, all_messages, messages_in, outputs_from}
use Rattle.messages.specs.Lists.{IsExact, read_lists}
use Rattle.sched_net.specs.Net.{BooksStand, BooksRun, Stands, ShowsSeat, ShowSeats, ShowLogs, execution_in}
use Rattle.inbox.specs.Places.{ArePlaces, instance_place, instance_count, list_count}
use Rattle.inbox.specs.Outlets.{OthersStay, ShowsOutlets, outlets_for}
use Rattle.sched_net.specs.Seated.{with_seat}
use Rattle.sched_net.specs.Code.Hearing.{EarCanHear, SeatHears, OneHears, IsHearingOf}
use Rattle.inbox.specs.Running.{EmitsAt, MeetsAt, Emits, IsCourseOf, HasEmitted, outputs_of_outlets}
use Rattle.sched_net.specs.Code.Parts.{HaveIndexes, hears_itself}
use Rattle.sched_net.specs.declared.books.Books.{Books}
use Rattle.inbox.specs.declared.outlets.Outlet.{Outlet}
use Rattle.sched_net.specs.declared.seated.Seated.{Seated}
use Rattle.sched_net.proofs.ArrivingLemmas.{hearing_arrives}
use Rattle.sched_net.proofs.HearingTests.{hears_is, mode-wired, hearing_holds, after_heard}
use Rattle.sched_net.proofs.HeardBatch.{ear_can, ear_sets, seat_after}
use Rattle.sched_net.proofs.Lifting.{Lifts, hearing_lifts}
use Rattle.messages.proofs.ListsLemmas.{length-read_lists}
use Rattle.sched_net.proofs.OwnOutlets.{outlets_there, outlets_are}
use Rattle.sched_net.proofs.PartsFound.{seat_within}
use Rattle.inbox.proofs.PlacesLemmas.{place-before}
use Rattle.sched_net.proofs.SeatsLemmas.{later_pool, logs_stay, has_grown, seats_after}
use Rattle.sched_net.proofs.ShellsLemmas.{loaded_at, many_loaded}
use Rattle.sched_net.proofs.Showing.{course_of, is_there-true}

-- a place of the seats is one after an instance heard
pub seat_still : (v : View) (old : Books) (c r : ℕ) (records : List Row) (pairs : List (ℕ × IdMessage)) (indexes : List (ℕ × ℕ)) (s : SetOff) (now : List Seated) → OneHears records pairs indexes s (instance_place v c r) old.seats.items now → (place : ℕ) → place < length old.seats.items → place < length now
seat_still v old c r records pairs indexes s now heard place less = subst (λ n. place < n) (sym (ap (λ (l : List Seated). length l) heard.changed ∙ length-set old.seats.items (instance_place v c r) heard.seat)) less

some_program : (o : Option Program) → IsSome o → (p : Program) × (o ≡ Some p)
some_program None h = let no : false ≡ true = h in cc
some_program (Some p) h = (p, refl)

-- the instance can hear a batch of its feeds, whose ids the pool gave
pub books_can : (v : View) (books : Books) (c r : ℕ) (pairs : List (ℕ × IdMessage)) → hears_itself v c r ≡ true → BooksRun v books → All (λ pair. pair.0 < length (feeds_for v c r)) pairs → All (λ pair. IsGiven books.lists.records pair.1) pairs
    → (place : ℕ) → place ≡ instance_place v c r → (records : List Row) → records ≡ books.lists.records → (was : Seated) → slice_get books.seats.items place ≡ Some was → EarCanHear records pairs was.ear
books_can v books c r pairs hears run feeds given place at records same was is =
    let own = hears_is v c r hears in
    let shown = run.stand.instances.each c r was own.there own.within (ap (slice_get books.seats.items) (sym at) ∙ is) in
    subst (λ l. EarCanHear l pairs was.ear) (sym same) (ear_can v books.lists c r (run.stand.seats.seats c r) pairs was.ear own.order feeds given shown.ear)

module _ (v : View) (valid : IsValid v) (c r : ℕ) (hears : hears_itself v c r ≡ true) (loaded : List (Option Program)) (tables : List Sets) (old : Books) where
  there : c < length v.components
  there = (hears_is v c r hears).there

  within : r < replicas_of v c
  within = (hears_is v c r hears).within

  module _ (given : Data) (steps : List Step) (stands : Stands v given steps loaded tables old) where
    -- the shell is there, and runs what the component runs
    pub shell_within : {X : Type 0} (of : X → Option Program) (shells : List X) → map of shells ≡ loaded → instance_place v c r < length shells
    shell_within of shells is =
        let many : length shells ≡ instance_count v = sym (length-map shells of) ∙ ap (λ (l : List (Option Program)). length l) is ∙ many_loaded v loaded stands.programs in
        subst (λ n. instance_place v c r < n) (sym many) (place-before (replicas_of v) c r (length v.components) within there)

    pub runs_program : get_or loaded (instance_place v c r) None ≡ program_of v c
    runs_program = loaded_at v loaded c r stands.programs there within

    pub has_program : IsSome (get_or loaded (instance_place v c r) None)
    has_program = subst (λ o. IsSome o) (sym runs_program) (stands.books.bodies c there)

    -- its outlets' lists are there
    pub outlets_within : (outlets : List Outlet) → outlets ≡ outlets_for v c r → All (λ o. o.place < length old.lists.lists) outlets
    outlets_within outlets are k d less =
        let many : length old.lists.lists ≡ list_count v = sym (length-read_lists old.lists) ∙ stands.books.shows.count in
        subst (λ n. (get_or outlets k d).place < n) (sym many)
        (outlets_there v c r within (get_or outlets k d) (subst (λ l. Has (get_or outlets k d) l) are (Has-get_or outlets k d less)))

-- ---- a batch was heard

module _ (v : View) (valid : IsValid v) (c r : ℕ) (hears : hears_itself v c r ≡ true) (loaded : List (Option Program)) (tables : List Sets) (old : Books) (parts : List Part) (some : 0 < length parts) (pairs : List (ℕ × IdMessage)) (indexes : List (ℕ × ℕ))
    (are : (given : Data) (steps : List Step) (stand : BooksStand v given steps old) → pairs_of (wiring_of v) given (execution_in stand) (instance_at (wiring_of v) c r) parts ≡ Ok (batch_with_ids old.lists.records pairs))
    (s : SetOff) (now : List Seated) (heard : OneHears old.lists.records pairs indexes s (instance_place v c r) old.seats.items now) (given : Data) (steps : List Step) (stands : Stands v given steps loaded tables old) (e : Event) (of : IsHearingOf e parts c r) where
  here : c < length v.components
  here = (hears_is v c r hears).there

  inside : r < replicas_of v c
  inside = (hears_is v c r hears).within

  -- the seat that heard, and its books before and after it
  own_seat : SeatStandsFor (instance_at (wiring_of v) c r) ((execution_in stands.books).logs c) ((execution_in stands.books).lives c r) (stands.books.seats.seats c r)
  own_seat = stands.books.stands.stands.seats c r (is_there-true v c r here inside)

  abbrev was : Seated
  was = get_or old.seats.items (instance_place v c r) heard.seat

  was_at : slice_get old.seats.items (instance_place v c r) ≡ Some was
  was_at = slice_get-get_or old.seats.items (instance_place v c r) heard.seat (seat_within v old c r here inside given steps stands.books)

  shown : ShowsSeat v old.lists c r (stands.books.seats.seats c r) was
  shown = stands.books.instances.each c r was here inside was_at

  seat_heard : SeatHears old.lists.records pairs indexes s was heard.seat
  seat_heard = heard.hears was was_at

  -- its outlets are those of the instance
  pub own_outlets : (place : ℕ) (b : Seated) → place ≡ instance_place v c r → b ≡ get_or now place b → b.outlets ≡ outlets_for v c r
  own_outlets place b at is =
      let one : b ≡ heard.seat =
      is
      ∙ ap (λ n. get_or now n b) at
      ∙ ap (λ l. get_or l (instance_place v c r) b) heard.changed
      ∙ get_or-set_same old.seats.items (instance_place v c r) heard.seat b (seat_within v old c r here inside given steps stands.books) in
      ap (λ z. z.outlets) one ∙ seat_heard.outlets ∙ shown.outlets

  -- what it set off is what the execution says
  is_set_off : s ≡ set_off (instance_at (wiring_of v) c r) (all_pairs (stands.books.seats.seats c r).heard) (batch_with_ids old.lists.records pairs)
  is_set_off =
      ear_sets v old.lists c r (stands.books.seats.seats c r) pairs indexes s was.ear heard.seat.ear shown.ear seat_heard.ear
      ∙ ap (λ i. set_off i (all_pairs (stands.books.seats.seats c r).heard) (batch_with_ids old.lists.records pairs)) (sym (instance-wired v c r here inside))

  legal : after_event (wiring_of v) given e (execution_in stands.books) ≡ Ok (with_lives c r (hear_batch (batch_with_ids old.lists.records pairs)) (execution_in stands.books))
  legal =
      of.after (wiring_of v) given (execution_in stands.books)
      ∙ after_heard v given c r parts (execution_in stands.books) (batch_with_ids old.lists.records pairs) (hearing_holds v c r parts hears some) (are given steps stands.books)

  -- its timesteps arrive at the shell
  pub all_arrive : All (Arrive (get_or loaded (instance_place v c r) None)) s.steps
  all_arrive =
      subst (λ o. All (Arrive o) s.steps) (sym (runs_program v valid c r hears loaded tables old given steps stands))
      (subst (λ z. All (Arrive (program_of v c)) z.steps) (sym is_set_off)
      (subst (λ all. All (Arrive (program_of v c)) (set_off (instance_at (wiring_of v) c r) (all_pairs all) (batch_with_ids old.lists.records pairs)).steps) (sym own_seat.heard)
      (hearing_arrives v given steps (event e) (execution_in stands.books) valid stands.books.fits stands.books.stands.run c r here inside (batch_with_ids old.lists.records pairs) legal (mode-wired v c r here inside ∙ (hears_is v c r hears).order))))

  -- ---- its course

  own_course : IsCourseOf (instance_at (wiring_of v) c r) (get_or loaded (instance_place v c r) None) (outlets_for v c r) (all_messages (wiring_of v) given (execution_in stands.books) - messages_in (outputs_from (wiring_of v) c) (stands.books.seats.seats c r).kept) (get_or tables (instance_place v c r) []) (read_lists old.lists) (stands.books.seats.seats c r).kept
  own_course =
      let runs = some_program (program_of v c) (stands.books.bodies c here) in
      let rest : ℕ = all_messages (wiring_of v) given (execution_in stands.books) - messages_in (outputs_from (wiring_of v) c) (stands.books.seats.seats c r).kept in
      subst (λ o. IsCourseOf (instance_at (wiring_of v) c r) o (outlets_for v c r) rest (get_or tables (instance_place v c r) []) (read_lists old.lists) (stands.books.seats.seats c r).kept) (sym (runs_program v valid c r hears loaded tables old given steps stands))
      (subst (λ t. IsCourseOf (instance_at (wiring_of v) c r) (program_of v c) (outlets_for v c r) rest (get_or t (instance_place v c r) []) (read_lists old.lists) (stands.books.seats.seats c r).kept) (sym stands.tables_are)
      (course_of v given (execution_in stands.books) stands.books.seats stands.books.tables (read_lists old.lists) valid stands.books.stands.stands stands.books.shows c r here inside runs.0 runs.1))

  -- the limit of the event is that of the course
  event_limit : (limit : Option Limit) → limit_of (instance_at (wiring_of v) c r).program (instance_at (wiring_of v) c r) s (outputs_of_outlets (outlets_for v c r)) (all_messages (wiring_of v) given (execution_in stands.books) - messages_in (outputs_from (wiring_of v) c) (stands.books.seats.seats c r).kept) (stands.books.seats.seats c r).kept ≡ limit
      → limit_of_event (wiring_of v) given e (execution_in stands.books) ≡ limit
  event_limit limit is =
      let w = wiring_of v in
      let i : Instance = instance_at w c r in
      let x : Execution = execution_in stands.books in
      let seat : Seat = stands.books.seats.seats c r in
      let outputs : List ℕ = outputs_from w c in
      let f : List ℕ → Kept → Option Limit = λ own kept. limit_of i.program i s own (all_messages w given x - messages_in outputs kept) kept in
      of.limit w given x
      ∙ ap (limit_of_pairs w given x c r) (are given steps stands.books)
      ∙ ap (λ all. limit_at w given x c r (set_off i (all_pairs all) (batch_with_ids old.lists.records pairs))) (sym own_seat.heard)
      ∙ ap (limit_at w given x c r) (sym is_set_off)
      ∙ ap (f outputs) (sym own_seat.kept)
      ∙ ap (λ own. f own seat.kept) (outlets_are v c r)
      ∙ is

  pub answers_at : (limit : Option Limit) → limit_of_event (wiring_of v) given e (execution_in stands.books) ≡ limit → (result : Result (Unit {0}) _) → result ≡ answer_at limit
      → Answers (after_event (wiring_of v) given e (execution_in stands.books)) (limit_of_event (wiring_of v) given e (execution_in stands.books)) result
  answers_at limit is result at memory =
      at ∙ sym (ap (λ a. answer_to a (limit_of_event (wiring_of v) given e (execution_in stands.books))) legal ∙ ap answer_at is)

  -- a limit that is met is that of the event
  pub answers_limit : (limit : Limit) (outlets : List Outlet) → outlets ≡ outlets_for v c r → MeetsAt limit loaded (instance_place v c r) outlets tables (read_lists old.lists) s
      → Answers (after_event (wiring_of v) given e (execution_in stands.books)) (limit_of_event (wiring_of v) given e (execution_in stands.books)) (Err (fault_at limit))
  answers_limit limit outlets own meets =
      answers_at (Some limit)
      (event_limit (Some limit)
      (subst (λ os. MeetsAt limit loaded (instance_place v c r) os tables (read_lists old.lists) s) own meets (instance_at (wiring_of v) c r) (all_messages (wiring_of v) given (execution_in stands.books) - messages_in (outputs_from (wiring_of v) c) (stands.books.seats.seats c r).kept) (stands.books.seats.seats c r).kept own_course))
      (Err (fault_at limit)) refl

  -- ---- and it was emitted

  module _ (feeds : All (λ pair. pair.0 < length (feeds_for v c r)) pairs) (have : HaveIndexes v (instance_for v c r) (read_lists old.lists) (batch_with_ids old.lists.records pairs) indexes) (new : Books) (next : List Sets) (outlets : List Outlet) (own : outlets ≡ outlets_for v c r)
      (emits : EmitsAt loaded (instance_place v c r) outlets tables next (read_lists old.lists) (read_lists new.lists) s) (stay : OthersStay outlets (read_lists old.lists) (read_lists new.lists)) (records : Continues old.lists.records new.lists.records) (pool : IsPool new.lists.records) (exact : IsExact new.lists)
      (seats_are : new.seats.items ≡ now) (places_are : new.places ≡ old.places) (logs_are : new.logs ≡ old.logs) (ended_is : new.ended ≡ old.ended) where
    has_emitted : HasEmitted (instance_at (wiring_of v) c r) (get_or loaded (instance_place v c r) None) (outlets_for v c r) (all_messages (wiring_of v) given (execution_in stands.books) - messages_in (outputs_from (wiring_of v) c) (stands.books.seats.seats c r).kept) emits.tables_now (read_lists new.lists) (stands.books.seats.seats c r).kept s
    has_emitted =
        subst (λ os. Emits (get_or loaded (instance_place v c r) None) os (get_or tables (instance_place v c r) []) emits.tables_now (read_lists old.lists) (read_lists new.lists) s) own emits.emits
        (instance_at (wiring_of v) c r) (all_messages (wiring_of v) given (execution_in stands.books) - messages_in (outputs_from (wiring_of v) c) (stands.books.seats.seats c r).kept) (stands.books.seats.seats c r).kept own_course

    pub answers_done : Answers (after_event (wiring_of v) given e (execution_in stands.books)) (limit_of_event (wiring_of v) given e (execution_in stands.books)) (Ok tt)
    answers_done = answers_at None (event_limit None has_emitted.limit) (Ok tt) refl

    abbrev seat_now : Seat
    seat_now = seat_hears (instance_at (wiring_of v) c r) (batch_with_ids old.lists.records pairs) (stands.books.seats.seats c r)

    lifted : Lifts v given (steps ++ event e ∷ []) (with_seat c r seat_now stands.books.seats) (set stands.books.tables (instance_place v c r) emits.tables_now) (read_lists new.lists)
    lifted =
        let i : Instance = instance_at (wiring_of v) c r in
        hearing_lifts v given steps (event e) stands.books.seats stands.books.tables (read_lists old.lists) valid stands.books.stands stands.books.shows c r here inside emits.tables_now (read_lists new.lists)
        (subst (λ os. OthersStay os (read_lists old.lists) (read_lists new.lists)) own stay)
        parts (batch_with_ids old.lists.records pairs) legal (hearing_holds v c r parts hears some)
        (subst (λ z. ShowsOutlets (outlets_for v c r) (read_lists new.lists) (emit i (stands.books.seats.seats c r).kept z)) is_set_off has_emitted.course.course.shows)
        (has_emitted.course.course.tables_are ∙ ap (λ z. (emit i (stands.books.seats.seats c r).kept z).tables) is_set_off)

    is_later : IsLater old.lists.records new.lists.records
    is_later = later_pool old.lists.records new.lists.records records pool

    seat_shown_now : ShowsSeat v new.lists c r seat_now heard.seat
    seat_shown_now =
        seat_after v old.lists c r (stands.books.seats.seats c r) pairs indexes s new.lists seat_now refl is_later
        (has_grown v given steps (event e) stands.books.seats (with_seat c r seat_now stands.books.seats) stands.books.tables (set stands.books.tables (instance_place v c r) emits.tables_now) (read_lists old.lists) (read_lists new.lists) valid stands.books.stands stands.books.shows lifted.stands lifted.shows c r here inside)
        feeds have was heard.seat shown seat_heard

    seats_shown : ShowSeats v new.lists (with_seat c r seat_now stands.books.seats) new.seats.items
    seats_shown =
        subst (λ l. ShowSeats v new.lists (with_seat c r seat_now stands.books.seats) l) (sym (seats_are ∙ heard.changed))
        (seats_after v given steps (event e) stands.books.seats stands.books.tables (set stands.books.tables (instance_place v c r) emits.tables_now) old.lists new.lists old.seats.items c r seat_now heard.seat valid here inside
        stands.books.stands stands.books.shows lifted is_later stands.books.instances seat_shown_now)

    pub stands_done : Stands v given (steps ++ event e ∷ []) loaded next new
    stands_done = record {
      books = record {
        fits = stands.books.fits;
        bodies = stands.books.bodies;
        seats = with_seat c r seat_now stands.books.seats;
        tables = set stands.books.tables (instance_place v c r) emits.tables_now;
        stands = lifted.stands;
        shows = lifted.shows;
        exact = exact;
        places = subst (λ p. ArePlaces v p) (sym places_are) stands.books.places;
        instances = seats_shown;
        logs = logs_stay v old.lists.records new.lists.records stands.books.seats (with_seat c r seat_now stands.books.seats) new.logs.items is_later (λ n. refl)
            (subst (λ l. ShowLogs v old.lists.records stands.books.seats l.items) (sym logs_are) stands.books.logs);
        runs = ended_is ∙ stands.books.runs;
      };
      tables_are = emits.changed ∙ ap (λ t. set t (instance_place v c r) emits.tables_now) stands.tables_are;
      programs = stands.programs;
    }
