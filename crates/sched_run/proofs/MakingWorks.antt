-- The work that is chosen is legal, also once more where it isn't a take; and after its events each window may be looked at again.
use Rattle.std.proofs.Common.{◌≡◌, ◌∙◌, ◌<◌, ◌+◌, ◌-◌, ◌++◌, ◌&&◌, ℕ, Bool, true, false, not, List, [], ◌∷◌, Option, Some, Result, Ok, map, length, get_or, slice_get, append_assoc, refl, sym, subst, ap, inl, inr, arith}
use Rattle.std.specs.Prelude.{if◌then◌else◌}
use Rattle.std.proofs.lemmas.Bool.{cases_lt}
use Rattle.std.proofs.lemmas.Option.{slice_get-get_or}
use Rattle.blz_value.specs.Members.{Has}
use Rattle.blz_value.proofs.Options.{Has-slice_get}
use Rattle.bloom_forms.specs.declared.program.Program.{Program}
use Rattle.bloom_forms.specs.Step.{Sets}
use Rattle.topo_forms.specs.Data.{Data}
use Rattle.topo_forms.specs.Messages.{Message as Sent}
use Rattle.topo_forms.specs.Valid.{IsValid}
use Rattle.topo_forms.specs.View.{View}
use Rattle.inbox.specs.Events.{Event, Step, event}
use Rattle.inbox.specs.Executions.{Execution, after_event, execution_of_events}
use Rattle.inbox.specs.Wiring.{Wiring, wiring_of}
use Rattle.inbox.proofs.Executions.Lengthening.{takes_within_logs}
use Rattle.inbox.proofs.Executions.Results.{Ok_same}
use Rattle.sched_turns.specs.Windows.{IsWindow}
use Rattle.sched_turns.specs.declared.windows.Stale.TheVariants.{Nothing}
use Rattle.sched_net.specs.Net.{BooksRun, BooksStand, execution_in}
use Rattle.sched_net.specs.declared.books.Books.{Books}
use Rattle.sched_run.specs.Made.{all_lanes, can_take, chosen_events, is_open_in, is_take, lane_list, open_works, says_again}
use Rattle.sched_run.specs.Code.Making.{AppliedSo, AppliesEvents, HasRun, Goes, GoesOn, IsDue}
use Rattle.sched_run.specs.Code.Looking.{IsTaker, LooksAt}
use Rattle.sched_run.specs.Code.Stale.{stale_on}
use Rattle.sched_run.specs.Code.Watch.{IsUntouched, StillShows, touches, touches_taker}
use Rattle.sched_run.specs.Code.Works.{AreShown, AreWorksOf, IsOpenWork, MayLookAt, ShowWorks, is_taking, sizes_shown, window_at, work_event}
use Rattle.sched_net.specs.declared.fault.MakeFault.{MakeFault}
use Rattle.sched_run.specs.declared.lanes.Lane.{Lane}
use Rattle.sched_run.specs.declared.lanes.Lane.TheVariants.{Deliver, Order}
use Rattle.sched_run.specs.declared.lanes.Taker.{Taker}
use Rattle.sched_run.specs.declared.works.Work.{Work}
use Rattle.sched_run.specs.declared.works.Work.TheVariants.{Message, Take}
use Rattle.sched_run.specs.declared.works.Works.{Works}
use Rattle.sched_run.proofs.LanesKnown.{IsLaneIn, lanes_are, lanes_in, takers_are}
use Rattle.sched_run.proofs.LookingLemmas.{window_same}
use Rattle.sched_run.proofs.MakingRuns.{events_legal, events_run, next_is}
use Rattle.sched_run.proofs.OpenBefore.{OpensOnlyNew, event_opens, opens_on, window_inside, window_shown}
use Rattle.sched_run.proofs.OpenWorksLegal.{legal_again, open_legal}
use Rattle.sched_run.proofs.SameBooks.{shown_same, takes_same}
use Rattle.sched_run.proofs.StayOpen.{StaysOpen, event_stays, stays_on, window_fresh}
use Rattle.sched_run.proofs.TurnsLemmas.{chosen_once, chosen_twice}
use Rattle.sched_run.proofs.Untouched.{list_kept, open_still, stale_nothing, take_kept}
use Rattle.sched_run.proofs.WorksLemmas.{lane_size, no_taker, taker_size_is}

-- ---- the chosen work

-- the event of a work is a take where the work is
pub takes : (work : Work) → is_take (work_event work) ≡ is_taking work
takes (Message (Deliver component replica number feed) index) = refl
takes (Message (Order component feed) index) = refl
takes (Take taker) = refl

module _ (v : View) (loaded : List (Option Program)) (tables : List Sets) (old : Books) (events : List Event) where
  -- an open work is due
  pub due_found : (number : ℕ) (work : Work) → Goes v loaded tables old events → IsOpenWork v old number work → IsDue v loaded tables old events (work_event work)
  due_found number work goes is = record {
    given = goes.given;
    run = goes.run;
    open_now = Has-slice_get (open_works (wiring_of v) goes.given (execution_in goes.run.stands.books)) number (work_event work) (is goes.given (map event events) goes.run.stands.books);
  }

  module _ (valid : IsValid v) (e : Event) (due : IsDue v loaded tables old events e) where
    abbrev w : Wiring
    w = wiring_of v

    abbrev x : Execution
    x = execution_in due.run.stands.books

    first : (y : Execution) × (after_event w due.given e x ≡ Ok y)
    first = open_legal v valid due.given x e due.open_now

    second : is_take e ≡ false → (z : Execution) × (after_event w due.given e first.0 ≡ Ok z)
    second other = legal_again w due.given (map event events) e x first.0 due.run.stands.books.stands.run other first.1

    -- so its event is legal
    pub goes_on : GoesOn v loaded tables old events e
    goes_on = record { given = due.given; run = due.run; next = first.0; legal = first.1 }

    module _ (next : List Sets) (new : Books) (after : List Event) (later : HasRun v due.given loaded next new after) where
      abbrev y : Execution
      y = execution_in later.stands.books

      -- also once more
      pub goes_again : after ≡ events ++ e ∷ [] → is_take e ≡ false → GoesOn v loaded next new after e
      goes_again are other =
          let again = second other in
          record {
            given = due.given;
            run = later;
            next = again.0;
            legal = ap (after_event w due.given e) (next_is v due.given loaded tables next old new events after e first.0 due.run later are first.1) ∙ again.1;
          }

      -- ---- what is open afterwards

      one_legal : after ≡ events ++ e ∷ [] → after_event w due.given e x ≡ Ok y
      one_legal are = first.1 ∙ ap (λ (z : Execution). Ok z) (sym (next_is v due.given loaded tables next old new events after e first.0 due.run later are first.1))

      opens_once : after ≡ events ++ e ∷ [] → (lane : Lane) → OpensOnlyNew w due.given x y lane
      opens_once are lane = event_opens w due.given (map event events) e x y due.run.stands.books.stands.run (one_legal are) lane

      -- the event before the last one, where it is made twice
      once_legal : execution_of_events w due.given (events ++ e ∷ []) ≡ Ok first.0
      once_legal = events_legal w due.given events e x first.0 (events_run v due.given loaded tables old events due.run.stands) first.1

      twice_legal : after ≡ events ++ e ∷ e ∷ [] → is_take e ≡ false → after_event w due.given e first.0 ≡ Ok y
      twice_legal are other =
          let again = second other in
          let two : execution_of_events w due.given ((events ++ e ∷ []) ++ e ∷ []) ≡ Ok again.0 = events_legal w due.given (events ++ e ∷ []) e first.0 again.0 once_legal again.1 in
          let same : y ≡ again.0 =
          Ok_same (execution_of_events w due.given after) y again.0 (events_run v due.given loaded next new after later.stands)
          (ap (execution_of_events w due.given) (are ∙ sym (append_assoc events (e ∷ []) (e ∷ []))) ∙ two) in
          again.1 ∙ ap (λ (z : Execution). Ok z) (sym same)

      opens_twice : after ≡ events ++ e ∷ e ∷ [] → is_take e ≡ false → (lane : Lane) → OpensOnlyNew w due.given x y lane
      opens_twice are other lane =
          opens_on w due.given x first.0 y lane
          (event_opens w due.given (map event events) e x first.0 due.run.stands.books.stands.run first.1 lane)
          (event_opens w due.given (map event (events ++ e ∷ [])) e first.0 y once_legal (twice_legal are other) lane)

      not_take : (t s : Bool) → (not t && s) ≡ true → t ≡ false
      not_take true s e = cc
      not_take false s e = refl

      opens_by : (number : ℕ) (b : Bool) → (not (is_take e) && says_again number) ≡ b → after ≡ events ++ chosen_events number e → (lane : Lane) → OpensOnlyNew w due.given x y lane
      opens_by number true b are = opens_twice (are ∙ ap (λ (l : List Event). events ++ l) (chosen_twice number e b)) (not_take (is_take e) (says_again number) b)
      opens_by number false b are = opens_once (are ∙ ap (λ (l : List Event). events ++ l) (chosen_once number e b))

      -- ---- what stays open, where the event is that of a work

      module _ (work : Work) (of : work_event work ≡ e) where
        legal_of : (z u : Execution) → after_event w due.given e z ≡ Ok u → after_event w due.given (work_event work) z ≡ Ok u
        legal_of z u legal = ap (λ (d : Event). after_event w due.given d z) of ∙ legal

        stays_once : after ≡ events ++ e ∷ [] → (lane : Lane) → IsLaneIn w lane → StaysOpen w due.given x y lane (stale_on work lane)
        stays_once are lane there = event_stays w due.given (map event events) work x y due.run.stands.books.stands.run (legal_of x y (one_legal are)) lane there

        stays_twice : after ≡ events ++ e ∷ e ∷ [] → is_take e ≡ false → (lane : Lane) → IsLaneIn w lane → StaysOpen w due.given x y lane (stale_on work lane)
        stays_twice are other lane there =
            stays_on w due.given x first.0 y lane (stale_on work lane)
            (event_opens w due.given (map event events) e x first.0 due.run.stands.books.stands.run first.1 lane)
            (event_stays w due.given (map event events) work x first.0 due.run.stands.books.stands.run (legal_of x first.0 first.1) lane there)
            (event_stays w due.given (map event (events ++ e ∷ [])) work first.0 y once_legal (legal_of first.0 y (twice_legal are other)) lane there)

        -- an untouched lane has the list that it had, and an untouched taker can take as before
        list_once : after ≡ events ++ e ∷ [] → (lane : Lane) → touches v work lane ≡ false → lane_list w due.given y lane ≡ lane_list w due.given x lane
        list_once are lane off = list_kept v due.given x y work (takes_within_logs w due.given (map event events) x due.run.stands.books.stands.run) (legal_of x y (one_legal are)) lane off

        list_twice : after ≡ events ++ e ∷ e ∷ [] → is_take e ≡ false → (lane : Lane) → touches v work lane ≡ false → lane_list w due.given y lane ≡ lane_list w due.given x lane
        list_twice are other lane off =
            list_kept v due.given first.0 y work (takes_within_logs w due.given (map event (events ++ e ∷ [])) first.0 once_legal) (legal_of first.0 y (twice_legal are other)) lane off
            ∙ list_kept v due.given x first.0 work (takes_within_logs w due.given (map event events) x due.run.stands.books.stands.run) (legal_of x first.0 first.1) lane off

        pub list_by : (number : ℕ) (b : Bool) → (not (is_take e) && says_again number) ≡ b → after ≡ events ++ chosen_events number e → (lane : Lane) → touches v work lane ≡ false → lane_list w due.given y lane ≡ lane_list w due.given x lane
        list_by number true b are = list_twice (are ∙ ap (λ (l : List Event). events ++ l) (chosen_twice number e b)) (not_take (is_take e) (says_again number) b)
        list_by number false b are = list_once (are ∙ ap (λ (l : List Event). events ++ l) (chosen_once number e b))

        take_once : after ≡ events ++ e ∷ [] → (taker : Taker) → touches_taker work taker ≡ false → can_take x taker ≡ can_take y taker
        take_once are taker off = take_kept v due.given x y work (legal_of x y (one_legal are)) taker off

        take_twice : after ≡ events ++ e ∷ e ∷ [] → is_take e ≡ false → (taker : Taker) → touches_taker work taker ≡ false → can_take x taker ≡ can_take y taker
        take_twice are other taker off =
            take_kept v due.given x first.0 work (legal_of x first.0 first.1) taker off
            ∙ take_kept v due.given first.0 y work (legal_of first.0 y (twice_legal are other)) taker off

        pub take_by : (number : ℕ) (b : Bool) → (not (is_take e) && says_again number) ≡ b → after ≡ events ++ chosen_events number e → (taker : Taker) → touches_taker work taker ≡ false → can_take x taker ≡ can_take y taker
        take_by number true b are = take_twice (are ∙ ap (λ (l : List Event). events ++ l) (chosen_twice number e b)) (not_take (is_take e) (says_again number) b)
        take_by number false b are = take_once (are ∙ ap (λ (l : List Event). events ++ l) (chosen_once number e b))

        pub stays_by : (number : ℕ) (b : Bool) → (not (is_take e) && says_again number) ≡ b → after ≡ events ++ chosen_events number e → (lane : Lane) → IsLaneIn w lane → StaysOpen w due.given x y lane (stale_on work lane)
        stays_by number true b are = stays_twice (are ∙ ap (λ (l : List Event). events ++ l) (chosen_twice number e b)) (not_take (is_take e) (says_again number) b)
        stays_by number false b are = stays_once (are ∙ ap (λ (l : List Event). events ++ l) (chosen_once number e b))

      -- each window may be looked at again
      pub may_look_again : (number : ℕ) (work : Work) → work_event work ≡ e → (k : Works) → AreWorksOf v k → after ≡ events ++ chosen_events number e → AreShown v old k → (place : ℕ) → MayLookAt v new k work place
      may_look_again number work of k works are shown place lane at =
          let opens : OpensOnlyNew w due.given x y lane = opens_by number (not (is_take e) && says_again number) refl are lane in
          let there : IsLaneIn w lane = lanes_in w lane (subst (Has lane) works.lanes_are (Has-slice_get k.lanes.items place lane at)) in
          let stays : StaysOpen w due.given x y lane (stale_on work lane) = stays_by work of number (not (is_take e) && says_again number) refl are lane there in
          let window = (shown due.given (map event events) due.run.stands.books).windows place lane at in
          record {
            given = due.given;
            steps = map event after;
            stand = later.stands.books;
            inside = window_inside w due.given x y lane (window_at k place) opens window;
            shown = window_shown w due.given x y lane (window_at k place) opens window;
            fresh = window_fresh w due.given x y lane (stale_on work lane) (window_at k place) stays window;
          }

      -- and what the work doesn't touch is shown still
      pub shows_still : (number : ℕ) (work : Work) → work_event work ≡ e → (k : Works) → AreWorksOf v k → after ≡ events ++ chosen_events number e → AreShown v old k → (place : ℕ) → IsUntouched v k work place → StillShows v new k place
      shows_still number work of k works are shown place off = record { window = window_still; size = size_still }
        where
          before : ShowWorks w due.given x k
          before = shown due.given (map event events) due.run.stands.books

          window_still : (lane : Lane) → slice_get k.lanes.items place ≡ Some lane → LooksAt v new lane (window_at k place)
          window_still lane at given steps stand =
              let has : Has lane (all_lanes w) = subst (Has lane) works.lanes_are (Has-slice_get k.lanes.items place lane at) in
              let there : IsLaneIn w lane = lanes_in w lane has in
              let apart : touches v work lane ≡ false = off.lane lane at in
              let opens : OpensOnlyNew w due.given x y lane = opens_by number (not (is_take e) && says_again number) refl are lane in
              let stays : StaysOpen w due.given x y lane Nothing = subst (StaysOpen w due.given x y lane) (stale_nothing v work lane apart) (stays_by work of number (not (is_take e) && says_again number) refl are lane there) in
              let list : lane_list w due.given y lane ≡ lane_list w due.given x lane = list_by work of number (not (is_take e) && says_again number) refl are lane apart in
              let now : IsWindow (is_open_in w due.given y lane) (length (lane_list w due.given y lane)) (window_at k place) =
              window_same (is_open_in w due.given x lane) (is_open_in w due.given y lane) (length (lane_list w due.given x lane)) (length (lane_list w due.given y lane)) (window_at k place)
              (open_still w due.given x y lane opens stays list) (ap (λ (l : List Sent). length l) (sym list)) (before.windows place lane at) in
              shown_same v new valid due.given given (map event after) steps later.stands.books stand lane (lanes_are v valid lane has) (window_at k place) now

          size_still : (given : Data) (steps : List Step) (stand : BooksStand v given steps new) → get_or k.sizes place 0 ≡ get_or (sizes_shown (execution_in stand) k) place 0
          size_still given steps stand = elim (cases_lt place (length k.windows.items)) [
            | inl less ↦ ap (λ (l : List ℕ). get_or l place 0) before.sizes ∙ lane_size x k place less ∙ sym (lane_size (execution_in stand) k place less)
            | inr more ↦
                let n : ℕ = place - length k.windows.items in
                let number_at : place ≡ length k.windows.items + n = omega (arith, more) in
                let inside : n < length k.takers.items = omega (arith, more, off.there, works.as_many, works.many) in
                of_taker given steps stand n number_at (get_or k.takers.items n no_taker) (slice_get-get_or k.takers.items n no_taker inside)
          ]
            where
              of_taker : (given : Data) (steps : List Step) (stand : BooksStand v given steps new) (n : ℕ) → place ≡ length k.windows.items + n → (taker : Taker) → slice_get k.takers.items n ≡ Some taker → get_or k.sizes place 0 ≡ get_or (sizes_shown (execution_in stand) k) place 0
              of_taker given steps stand n number_at taker at =
                  let apart : touches_taker work taker ≡ false = off.taker n taker (omega (arith, number_at, works.many)) at in
                  let is : IsTaker v taker = takers_are v valid taker (subst (Has taker) works.takers_are (Has-slice_get k.takers.items n taker at)) in
                  ap (λ (l : List ℕ). get_or l place 0) before.sizes
                  ∙ taker_size_is x k place n taker number_at at
                  ∙ ap (λ b. if b then 1 else 0) (take_by work of number (not (is_take e) && says_again number) refl are taker apart ∙ takes_same v new valid due.given given (map event after) steps later.stands.books stand taker is)
                  ∙ sym (taker_size_is (execution_in stand) k place n taker number_at at)

-- ---- after the chosen events, of the same topology

module _ (v also : View) (same : also ≡ v) (loaded : List (Option Program)) (tables next : List Sets) (old new : Books) (events after : List Event) (more : List Event) (called : Result (Unit {0}) MakeFault) (applies : AppliesEvents v loaded tables next old new events after more called) (x : Unit {0}) (is : called ≡ Ok x) where
  ran : (given : Data) → HasRun v given loaded tables old events → HasRun v given loaded next new after
  ran given run = subst (λ q. AppliedSo v given loaded next new events after more q) is (applies given run)

  -- the books run on
  pub books_run : Goes v loaded tables old events → BooksRun also new
  books_run goes = subst (λ (u : View). BooksRun u new) (sym same) (record { given = goes.given; steps = map event after; stand = (ran goes.given goes.run).stands.books })

-- and each window may be looked at again
pub may_look_on : (v also : View) (same : also ≡ v) (loaded : List (Option Program)) (tables next : List Sets) (old new : Books) (events after : List Event) (index number : ℕ) (work : Work) (k : Works) (called : Result (Unit {0}) MakeFault)
    → AppliesEvents v loaded tables next old new events after (chosen_events number (work_event work)) called → (x : Unit {0}) → called ≡ Ok x → IsValid v → Goes v loaded tables old events → IsOpenWork v old index work
    → after ≡ events ++ chosen_events number (work_event work) → AreWorksOf v k → AreShown v old k → (place : ℕ) → MayLookAt also new k work place
may_look_on v also same loaded tables next old new events after index number work k called applies x is valid goes found are works shown place =
    let due : IsDue v loaded tables old events (work_event work) = due_found v loaded tables old events index work goes found in
    subst (λ (u : View). MayLookAt u new k work place) (sym same)
    (may_look_again v loaded tables old events valid (work_event work) due next new after
    (ran v also same loaded tables next old new events after (chosen_events number (work_event work)) called applies x is due.given due.run) number work refl k works are shown place)

-- and what the work doesn't touch is shown still
pub shows_still_on : (v also : View) (same : also ≡ v) (loaded : List (Option Program)) (tables next : List Sets) (old new : Books) (events after : List Event) (index number : ℕ) (work : Work) (k : Works) (called : Result (Unit {0}) MakeFault)
    → AppliesEvents v loaded tables next old new events after (chosen_events number (work_event work)) called → (x : Unit {0}) → called ≡ Ok x → IsValid v → Goes v loaded tables old events → IsOpenWork v old index work
    → after ≡ events ++ chosen_events number (work_event work) → AreWorksOf v k → AreShown v old k → (place : ℕ) → IsUntouched also k work place → StillShows also new k place
shows_still_on v also same loaded tables next old new events after index number work k called applies x is valid goes found are works shown place off =
    let due : IsDue v loaded tables old events (work_event work) = due_found v loaded tables old events index work goes found in
    subst (λ (u : View). StillShows u new k place) (sym same)
    (shows_still v loaded tables old events valid (work_event work) due next new after
    (ran v also same loaded tables next old new events after (chosen_events number (work_event work)) called applies x is due.given due.run) number work refl k works are shown place
    (subst (λ (u : View). IsUntouched u k work place) same off))

-- the chosen event is legal once more, seen by an equal topology and equal programs
pub goes_there : (v also : View) (same : also ≡ v) (loaded running : List (Option Program)) (programs : running ≡ loaded) (tables next : List Sets) (old new : Books) (events after : List Event) → IsValid v → (e : Event) → IsDue v loaded tables old events e → (called : Result (Unit {0}) MakeFault) (x : Unit {0})
    → AppliesEvents v loaded tables next old new events after (e ∷ []) called → called ≡ Ok x → after ≡ events ++ e ∷ [] → is_take e ≡ false → GoesOn also running next new after e
goes_there v also same loaded running programs tables next old new events after valid e due called x applies is are other =
    subst (λ (u : View). GoesOn u running next new after e) (sym same)
    (subst (λ (l : List (Option Program)). GoesOn v l next new after e) (sym programs)
    (goes_again v loaded tables old events valid e due next new after (ran v also same loaded tables next old new events after (e ∷ []) called applies x is due.given due.run) are other))
