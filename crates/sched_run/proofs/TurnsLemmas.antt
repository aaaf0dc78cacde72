-- More turns only add events, and none once nothing is open; so what is answered follows from any number of turns that shows enough.
--
-- The events after k turns are a front of those that are generated. Whether an event meets a limit depends on the front
-- up to it alone; so the first event of a front that meets one is the first of all.
use Rattle.std.proofs.Common.{◌≡◌, ◌<◌, ◌≤◌, ◌+◌, ◌-◌, ◌%◌, ◌&&◌, not, ℕ, zero, suc, Bool, true, false, Option, None, Some, List, [], ◌∷◌, ◌++◌, length, take, drop, slice_get, refl, ap, ◌∙◌, sym, subst, add-zero, append_assoc, length-append, inl, inr, arith}
use Rattle.std.specs.Prelude.{Ok, Err, if◌then◌else◌, slice_index_or}
use Rattle.std.specs.List.{cons_option, filter_map, range_with_len}
use Rattle.std.specs.Option.{option_map, option_and_then}
use Rattle.std.proofs.lemmas.Bool.{cases_lt, le-ltb, lt-ltb}
use Rattle.std.proofs.lemmas.List.{take_all, take-append-le, take-append-drop, length-take}
use Rattle.std.proofs.Math.Seq.{take-append_seam}
use Rattle.blz_value.proofs.Options.{slice_get-last}
use Rattle.messages.proofs.ListsLemmas.{length-continues as front_length}
use Rattle.topo_forms.specs.Data.{Data}
use Rattle.inbox.specs.Events.{Event}
use Rattle.inbox.specs.Growth.{Continues}
use Rattle.inbox.specs.Wiring.{Wiring}
use Rattle.inbox.proofs.Lists.Growing.{continues_itself, continues_with, continues_on}
use Rattle.sched_turns.specs.Draws.{next_state, drawn_number}
use Rattle.inbox.specs.Limits.{Limit, limit_of_event}
use Rattle.sched_net.specs.declared.fault.MakeFault.{MakeFault}
use Rattle.sched_net.specs.declared.fault.MakeFault.TheVariants.{TooManyEvents}
use Rattle.sched_run.specs.Made.{event_limit, Course, after_turns, chosen_events, execution_after, fault_by, faults_in, generated, is_take, limit_at_place, made_of, made_within, open_works, says_again, turn, turn_among, unless_at_fault}
use Rattle.sched_run.proofs.FrontsLemmas.{append_get}

-- ---- lists

-- where a function gives nothing of the numbers of a range
none_found : {Y : Type 0} (f : ℕ → Option Y) (a n : ℕ) → ((i : ℕ) → a ≤ i → i < a + n → f i ≡ None) → filter_map f (range_with_len a n) ≡ []
none_found f a zero none = refl
none_found f a (suc n) none =
    ap (λ o. cons_option o (filter_map f (range_with_len (a + 1) n))) (none a (omega arith) (omega arith))
    ∙ none_found f (a + 1) n (λ i low high. none i (omega arith) (omega arith))

-- and where it first gives something
first_found : {Y : Type 0} (f : ℕ → Option Y) (a n p : ℕ) (y : Y) → p < n → ((i : ℕ) → a ≤ i → i < a + p → f i ≡ None) → f (a + p) ≡ Some y → (rest : List Y) × (filter_map f (range_with_len a n) ≡ y ∷ rest)
first_found f a zero p y lt none is = absurd (omega arith)
first_found f a (suc n) zero y lt none is =
    (filter_map f (range_with_len (a + 1) n), ap (λ o. cons_option o (filter_map f (range_with_len (a + 1) n))) (ap f (sym (add-zero a)) ∙ is))
first_found {Y} f a (suc n) (suc p) y lt none is =
    let on : (rest : List Y) × (filter_map f (range_with_len (a + 1) n) ≡ y ∷ rest) =
    first_found f (a + 1) n p y (omega arith) (λ i low high. none i (omega arith) (omega arith)) (ap f (let e : (a + 1) + p ≡ a + suc p = omega arith in e) ∙ is) in
    (on.0, ap (λ o. cons_option o (filter_map f (range_with_len (a + 1) n))) (none a (omega arith) (omega arith)) ∙ on.1)

-- where nothing is found there is nothing
none_before : {Y : Type 0} (o : Option Y) (rest : List Y) → cons_option o rest ≡ [] → (o ≡ None) × (rest ≡ [])
none_before None rest e = (refl, e)
none_before (Some y) rest e = cc

nothing_found : {Y : Type 0} (f : ℕ → Option Y) (a n i : ℕ) → filter_map f (range_with_len a n) ≡ [] → i < n → f (a + i) ≡ None
nothing_found f a zero i none within = absurd (omega arith)
nothing_found f a (suc n) zero none within = ap f (add-zero a) ∙ (none_before (f a) (filter_map f (range_with_len (a + 1) n)) none).0
nothing_found f a (suc n) (suc k) none within =
    ap f (let e : a + suc k ≡ (a + 1) + k = omega arith in e) ∙ nothing_found f (a + 1) n k (none_before (f a) (filter_map f (range_with_len (a + 1) n)) none).1 (omega arith)

-- ---- the chosen events

some_chosen : (b : Bool) (e : Event) → 1 ≤ length (if b then e ∷ e ∷ [] else e ∷ [])
some_chosen true e = omega arith
some_chosen false e = omega arith

begin_chosen : (b : Bool) (e : Event) → Continues (e ∷ []) (if b then e ∷ e ∷ [] else e ∷ [])
begin_chosen true e = continues_with (e ∷ []) (e ∷ [])
begin_chosen false e = continues_itself (e ∷ [])

-- the event stands first, and once more where it is delivered or ordered and the number says so
pub chosen_first : (number : ℕ) (e : Event) → Continues (e ∷ []) (chosen_events number e)
chosen_first number e = begin_chosen (not (is_take e) && says_again number) e

pub chosen_once : (number : ℕ) (e : Event) → (not (is_take e) && says_again number) ≡ false → chosen_events number e ≡ e ∷ []
chosen_once number e b = ap (λ t. if t then e ∷ e ∷ [] else e ∷ []) b

pub chosen_twice : (number : ℕ) (e : Event) → (not (is_take e) && says_again number) ≡ true → chosen_events number e ≡ e ∷ e ∷ []
chosen_twice number e b = ap (λ t. if t then e ∷ e ∷ [] else e ∷ []) b

module _ (w : Wiring) (given : Data) where
  -- ---- one turn

  -- what is open after the events of a course
  abbrev works_after : List Event → List Event
  works_after events = open_works w given (execution_after w given events)

  -- where nothing is open a turn changes nothing
  pub turn_idle : (course : Course) → open_works w given (execution_after w given course.events) ≡ [] → turn w given course ≡ course
  turn_idle course none = ap (turn_among course) none

  -- else the chosen events come
  pub turn_chooses : (course : Course) (e : Event) (works : List Event) → open_works w given (execution_after w given course.events) ≡ e ∷ works → turn w given course ≡ turn_among course (e ∷ works)
  turn_chooses course e works are = ap (turn_among course) are

  -- the event that is chosen among works
  abbrev pub choice : Course → (e : Event) → (works : List Event) → Event
  choice course e works = slice_index_or (e ∷ works) (drawn_number (next_state course.state) % length (e ∷ works)) e

  among_continues : (course : Course) (works : List Event) → Continues course.events (turn_among course works).events
  among_continues course [] = continues_itself course.events
  among_continues course (e ∷ works) = continues_with course.events (chosen_events (drawn_number (next_state course.state)) (choice course e works))

  pub turn_continues : (course : Course) → Continues course.events (turn w given course).events
  turn_continues course = among_continues course (works_after course.events)

  module _ (seed : ℕ) where
    -- ---- more turns

    -- where nothing is open after some turns, more turns change nothing
    pub turns_idle : (k n : ℕ) → open_works w given (execution_after w given (after_turns w given seed k).events) ≡ [] → after_turns w given seed (k + n) ≡ after_turns w given seed k
    turns_idle k zero none = ap (after_turns w given seed) (add-zero k)
    turns_idle k (suc n) none =
        ap (after_turns w given seed) (let e : k + suc n ≡ suc (k + n) = omega arith in e)
        ∙ ap (turn w given) (turns_idle k n none)
        ∙ turn_idle (after_turns w given seed k) none

    -- the events of more turns begin with those of fewer
    pub turns_continue : (k n : ℕ) → Continues (after_turns w given seed k).events (after_turns w given seed (k + n)).events
    turns_continue k zero = subst (λ m. Continues (after_turns w given seed k).events (after_turns w given seed m).events) (sym (add-zero k)) (continues_itself (after_turns w given seed k).events)
    turns_continue k (suc n) =
        subst (λ m. Continues (after_turns w given seed k).events (after_turns w given seed m).events) (let e : suc (k + n) ≡ k + suc n = omega arith in e)
        (continues_on (after_turns w given seed k).events (after_turns w given seed (k + n)).events (turn w given (after_turns w given seed (k + n))).events
        (turns_continue k n) (turn_continues (after_turns w given seed (k + n))))

    -- whatever number of turns the second is
    pub turns_front : (k m : ℕ) → k ≤ m → Continues (after_turns w given seed k).events (after_turns w given seed m).events
    turns_front k m le =
        subst (λ n. Continues (after_turns w given seed k).events (after_turns w given seed n).events) (let e : k + (m - k) ≡ m = omega arith in e) (turns_continue k (m - k))

  -- ---- limits

  -- an event of a front meets the same limit in the whole
  pub limit_on_front : (front all : List Event) (place : ℕ) → Continues front all → place < length front → limit_at_place w given all place ≡ limit_at_place w given front place
  limit_on_front front all place more within =
      subst (λ (l : List Event). limit_at_place w given l place ≡ limit_at_place w given front place) more.with_more
      (ap (λ o. option_and_then (λ e. limit_of_event w given e (execution_after w given (take place (front ++ more.more)))) o) (append_get front more.more place within)
      ∙ ap (λ l. option_and_then (λ e. limit_of_event w given e (execution_after w given l)) (slice_get front place)) (take-append-le place front more.more (omega arith)))

  -- and where later events are left out
  pub limit_in_first : (events : List Event) (most place : ℕ) → place < most → place < length events → limit_at_place w given (take most events) place ≡ limit_at_place w given events place
  limit_in_first events most place low within =
      let front : Continues (take most events) events = record { more = drop most events; with_more = take-append-drop most events } in
      sym (limit_on_front (take most events) events place front (let e : place < length (take most events) = omega (arith, length-take most events) in e))

  -- the next event after some
  pub limit_next : (events : List Event) (e : Event) → limit_at_place w given (events ++ e ∷ []) (length events) ≡ limit_of_event w given e (execution_after w given events)
  limit_next events e =
      ap (λ o. option_and_then (λ d. limit_of_event w given d (execution_after w given (take (length events) (events ++ e ∷ [])))) o) (slice_get-last events e)
      ∙ ap (λ l. limit_of_event w given e (execution_after w given l)) (take-append_seam events (e ∷ []))

  -- where each event of a list meets none
  abbrev pub NoneMeets : (events : List Event) → Type 0
  NoneMeets events = (place : ℕ) → place < length events → limit_at_place w given events place ≡ None

  -- one event more
  pub none_more : (events : List Event) (e : Event) → NoneMeets events → limit_of_event w given e (execution_after w given events) ≡ None → NoneMeets (events ++ e ∷ [])
  none_more events e none last place within = elim (cases_lt place (length events)) [
    | inl low ↦ limit_on_front events (events ++ e ∷ []) place (continues_with events (e ∷ [])) low ∙ none place low
    | inr past ↦
        let at : place ≡ length events = omega (arith, length-append events (e ∷ [])) in
        ap (limit_at_place w given (events ++ e ∷ [])) at ∙ limit_next events e ∙ last
  ]

  -- there is no fault
  pub faults_none : (events : List Event) → NoneMeets events → faults_in w given events ≡ []
  faults_none events none =
      none_found (λ place. option_map (fault_by (suc place)) (limit_at_place w given events place)) 0 (length events)
      (λ i low high. ap (option_map (fault_by (suc i))) (none i (omega arith)))

  -- and where there is none, no event meets a limit
  pub none_meets : (events : List Event) → faults_in w given events ≡ [] → NoneMeets events
  none_meets events none place within =
      let f : ℕ → Option MakeFault = λ p. option_map (fault_by (suc p)) (limit_at_place w given events p) in
      no_fault (limit_at_place w given events place) (ap f (let e : place ≡ 0 + place = omega arith in e) ∙ nothing_found f 0 (length events) place none within)
    where
      no_fault : (o : Option Limit) → option_map (fault_by (suc place)) o ≡ None → o ≡ None
      no_fault None e = refl
      no_fault (Some limit) e = cc

  -- the first fault is that of the first event that meets a limit
  faults_first : (events : List Event) (place : ℕ) (limit : Limit) → place < length events → ((before : ℕ) → before < place → limit_at_place w given events before ≡ None) → limit_at_place w given events place ≡ Some limit
      → (rest : List MakeFault) × (faults_in w given events ≡ fault_by (suc place) limit ∷ rest)
  faults_first events place limit within none meets =
      let f : ℕ → Option MakeFault = λ p. option_map (fault_by (suc p)) (limit_at_place w given events p) in
      first_found f 0 (length events) place (fault_by (suc place) limit) within
      (λ i low high. ap (option_map (fault_by (suc i))) (none i (omega arith)))
      (ap f (let e : 0 + place ≡ place = omega arith in e) ∙ ap (option_map (fault_by (suc place))) meets)

  -- ---- what is made

  -- the first fault is answered
  first_answered : (most : ℕ) (events : List Event) (faults rest : List MakeFault) (fault : MakeFault) → faults ≡ fault ∷ rest → unless_at_fault most events faults ≡ Err fault
  first_answered most events faults rest fault are = ap (unless_at_fault most events) are

  module _ (seed most : ℕ) where
    -- nothing is open any more, no event meets a limit, and there are few enough
    pub made_ends : (k : ℕ) (events : List Event) → events ≡ (after_turns w given seed k).events → k ≤ suc most → open_works w given (execution_after w given events) ≡ [] → length events ≤ most → NoneMeets events
        → made_within w given seed most ≡ Ok events
    made_ends k events are le none few meets =
        let idle : open_works w given (execution_after w given (after_turns w given seed k).events) ≡ [] = subst (λ (l : List Event). open_works w given (execution_after w given l) ≡ []) are none in
        let all : generated w given seed most ≡ events =
        ap (λ n. (after_turns w given seed n).events) (let e : suc most ≡ k + (suc most - k) = omega arith in e)
        ∙ ap (λ (c : Course). c.events) (turns_idle seed k (suc most - k) idle)
        ∙ sym are in
        ap (λ (l : List Event). unless_at_fault most l (faults_in w given (take most l))) all
        ∙ ap (λ (l : List Event). unless_at_fault most events (faults_in w given l)) (take_all most events few)
        ∙ ap (unless_at_fault most events) (faults_none events meets)
        ∙ ap (λ b. if b then Err TooManyEvents else Ok events) (le-ltb most (length events) few)

    -- an event meets a limit, and none before it does
    pub made_meets : (k : ℕ) (front : List Event) (place : ℕ) (limit : Limit) → Continues front (after_turns w given seed k).events → k ≤ suc most → place < length front → place < most
        → ((before : ℕ) → before < place → limit_at_place w given front before ≡ None) → limit_at_place w given front place ≡ Some limit → made_within w given seed most ≡ Err (fault_by (suc place) limit)
    made_meets k front place limit more le within few none meets =
        let all : List Event = generated w given seed most in
        let first : List Event = take most all in
        let whole : Continues front all = continues_on front (after_turns w given seed k).events all more (turns_front seed k (suc most) le) in
        let long : length front ≤ length all = front_length front all whole in
        let same : (n : ℕ) → n ≤ place → limit_at_place w given first n ≡ limit_at_place w given front n =
        λ n low. limit_in_first all most n (omega arith) (omega arith) ∙ limit_on_front front all n whole (omega arith) in
        let found = faults_first first place limit (omega (arith, length-take most all)) (λ before lt. same before (omega arith) ∙ none before lt) (same place (omega arith) ∙ meets) in
        first_answered most all (faults_in w given first) found.0 (fault_by (suc place) limit) found.1

    -- the next event meets a limit
    pub made_stops : (k : ℕ) (events : List Event) (e : Event) (limit : Limit) → Continues (events ++ e ∷ []) (after_turns w given seed k).events → k ≤ suc most → length events < most
        → NoneMeets events → limit_of_event w given e (execution_after w given events) ≡ Some limit → made_within w given seed most ≡ Err (fault_by (suc (length events)) limit)
    made_stops k events e limit more le few none meets =
        let long : length (events ++ e ∷ []) ≡ length events + 1 = length-append events (e ∷ []) in
        made_meets k (events ++ e ∷ []) (length events) limit more le (omega (arith, long)) few
        (λ before lt. limit_on_front events (events ++ e ∷ []) before (continues_with events (e ∷ [])) lt ∙ none before lt) (limit_next events e ∙ meets)

    -- there are too many events, and none of the first meets a limit
    pub made_overflows : (k : ℕ) → k ≤ suc most → most < length (after_turns w given seed k).events → ((place : ℕ) → place < most → limit_at_place w given (after_turns w given seed k).events place ≡ None)
        → made_within w given seed most ≡ Err TooManyEvents
    made_overflows k le many none =
        let front : List Event = (after_turns w given seed k).events in
        let all : List Event = generated w given seed most in
        let whole : Continues front all = turns_front seed k (suc most) le in
        let long : length front ≤ length all = front_length front all whole in
        let few : length (take most all) ≡ most = omega (arith, length-take most all) in
        let meets : NoneMeets (take most all) =
        λ place low. limit_in_first all most place (omega arith) (omega arith) ∙ limit_on_front front all place whole (omega arith) ∙ none place (omega arith) in
        ap (unless_at_fault most all) (faults_none (take most all) meets)
        ∙ ap (λ b. if b then Err TooManyEvents else Ok all) (lt-ltb most (length all) (omega arith))

-- ---- the same by splits

-- an event within a list that is split
split_front : {X : Type 0} (before : List X) (e : X) (later all : List X) → all ≡ before ++ e ∷ later → Continues (before ++ e ∷ []) all
split_front before e later all split = record { more = later; with_more = append_assoc before (e ∷ []) later ∙ sym split }

-- ---- a schedule has at most a million events

pub made_of_within : (w : Wiring) (given : Data) (seed : ℕ) → made_of w given seed ≡ made_within w given seed event_limit
unfolding made_of
made_of_within w given seed = refl
