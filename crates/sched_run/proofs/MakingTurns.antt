-- A turn makes the chosen events, and what ends the turns is the answer to the seed.
use Rattle.std.proofs.Common.{◌≡◌, ◌∙◌, ◌+◌, ◌<◌, ◌≤◌, ◌%◌, ◌++◌, ℕ, suc, List, [], ◌∷◌, Option, Some, Result, Ok, Err, IsErrAnd, length, map, sum, slice_get, refl, sym, subst, ap, arith}
use Rattle.std.proofs.lemmas.List.{length-append}
use Rattle.std.proofs.lemmas.Option.{get_or_from_slice_get}
use Rattle.messages.proofs.ListsLemmas.{length-continues as front_length}
use Rattle.bloom_forms.specs.declared.program.Program.{Program}
use Rattle.bloom_forms.specs.Step.{Sets}
use Rattle.topo_forms.specs.Data.{Data}
use Rattle.topo_forms.specs.View.{View}
use Rattle.inbox.specs.Completeness.{left_count}
use Rattle.inbox.specs.Events.{Event, Step, event}
use Rattle.inbox.specs.Executions.{Execution}
use Rattle.inbox.specs.Growth.{Continues}
use Rattle.inbox.specs.Wiring.{Wiring, wiring_of}
use Rattle.inbox.proofs.Lists.Growing.{continues_with}
use Rattle.sched_turns.specs.Draws.{next_state, drawn_number}
use Rattle.inbox.specs.Limits.{Limit, too_many_rows, too_many_messages, limit_of_event}
use Rattle.sched_net.specs.Net.{BooksStand, execution_in}
use Rattle.sched_net.specs.declared.books.Books.{Books}
use Rattle.sched_run.specs.Made.{event_limit, Course, after_turns, chosen_events, execution_after, fault_by, made_of, made_within, open_works, turn, turn_among, AnswersSo}
use Rattle.sched_run.specs.Naming.{CanBeWritten}
use Rattle.sched_run.specs.Code.Making.{AppliedSo, AppliesEvents, MeetNone, HasRun, HasTurned, IsReady, FailsAt, FailsIn, TurnedSo, Turns}
use Rattle.sched_run.specs.Code.Watch.{IsWatched}
use Rattle.sched_run.specs.Code.Works.{AreShown, AreWorksOf, IsOpenWork, work_event}
use Rattle.sched_net.specs.declared.fault.MakeFault.{MakeFault}
use Rattle.sched_net.specs.declared.fault.MakeFault.TheVariants.{TooManyEvents, TooManyRows, TooManyMessages, NoMemory}
use Rattle.sched_run.specs.declared.making.Making.{Making}
use Rattle.sched_run.specs.declared.works.Work.{Work}
use Rattle.sched_run.specs.declared.works.Works.{Works}
use Rattle.sched_run.proofs.MakingApplies.{handed_fault}
use Rattle.sched_run.proofs.MakingRuns.{after_is, events_run}
use Rattle.sched_run.proofs.TurnsLemmas.{chosen_first, limit_on_front, made_ends, made_overflows, made_stops}
use Rattle.sched_run.proofs.WorksLemmas.{total_is}
use Rattle.sched_run.proofs.WrittenLemmas.{written_there}

-- ---- the chosen event

-- a turn among works, of which the draw chooses this
pub among_chosen : (course : Course) (works : List Event) (e : Event) → slice_get works (drawn_number (next_state course.state) % length works) ≡ Some e
    → turn_among course works ≡ record { state = next_state course.state; events = course.events ++ chosen_events (drawn_number (next_state course.state)) e }
among_chosen course [] e chosen = cc
among_chosen course (first ∷ works) e chosen =
    let number : ℕ = drawn_number (next_state course.state) in
    ap (λ (d : Event). record { state = next_state course.state; events = course.events ++ chosen_events number d })
    (get_or_from_slice_get (first ∷ works) (number % length (first ∷ works)) e first chosen)

-- one event at least
pub some_more : (number : ℕ) (e : Event) → 1 ≤ length (chosen_events number e)
some_more number e = front_length (e ∷ []) (chosen_events number e) (chosen_first number e)

-- so there are more events
pub longer_made : (old new : List Event) (number : ℕ) (e : Event) → new ≡ old ++ chosen_events number e → length old < length new
longer_made old new number e are =
    let all : length new ≡ length (old ++ chosen_events number e) = ap (λ (l : List Event). length l) are in
    let longer : length (old ++ chosen_events number e) ≡ length old + length (chosen_events number e) = length-append old (chosen_events number e) in
    let some : 1 ≤ length (chosen_events number e) = some_more number e in
    omega (arith, all, longer, some)

module _ (v : View) (given : Data) (seed : ℕ) (loaded : List (Option Program)) (tables : List Sets) (b : Books) (m : Making) (turned : HasTurned v given seed loaded tables b m) where
  abbrev w : Wiring
  w = wiring_of v

  abbrev x : Execution
  x = execution_in turned.run.stands.books

  abbrev events : List Event
  events = m.made

  after : execution_after w given events ≡ x
  after = after_is v given loaded tables b m.made turned.run.stands

  -- one turn more, of whose draw this event is chosen
  module _ (e : Event) (chosen : slice_get (open_works w given x) (drawn_number (next_state m.draws) % length (open_works w given x)) ≡ Some e) where
    abbrev drawn : ℕ
    drawn = drawn_number (next_state m.draws)

    pub turns_more : after_turns w given seed (suc turned.turns) ≡ record { state = next_state m.draws; events = events ++ chosen_events drawn e }
    turns_more =
        ap (turn w given) turned.course
        ∙ ap (λ (y : Execution). turn_among (record { state = m.draws; events = events }) (open_works w given y)) after
        ∙ among_chosen (record { state = m.draws; events = events }) (open_works w given x) e chosen

    -- so it has turned once more
    pub turned_more : (next : List Sets) (new : Books) (n : Making) → HasRun v given loaded next new n.made → n.draws ≡ next_state m.draws → n.made ≡ events ++ chosen_events drawn e
        → HasTurned v given seed loaded next new n
    turned_more next new n run on are = record {
      run = run;
      turns = suc turned.turns;
      course = turns_more
          ∙ ap (λ s. record { state = s; events = events ++ chosen_events drawn e }) (sym on)
          ∙ ap (λ (l : List Event). record { state = n.draws; events = l }) (sym are);
      few =
          let longer : length (events ++ chosen_events drawn e) ≡ length events + length (chosen_events drawn e) = length-append events (chosen_events drawn e) in
          let some : 1 ≤ length (chosen_events drawn e) = some_more drawn e in
          let all : length n.made ≡ length (events ++ chosen_events drawn e) = ap (λ (l : List Event). length l) are in
          let few : turned.turns ≤ length m.made = turned.few in
          omega (arith, longer, some, all, few);
    }

-- ---- what is answered

made_is : (w : Wiring) (given : Data) (seed : ℕ) → made_of w given seed ≡ made_within w given seed event_limit
unfolding made_of
made_is w given seed = refl

module _ (w : Wiring) (given : Data) (seed turns most : ℕ) (few : turns ≤ suc most) (events : List Event) (are : (after_turns w given seed turns).events ≡ events) (before : List Event) (due : Event) (begins : Continues (before ++ due ∷ []) events) (unmet : MeetNone w given before) where
  -- the next event would be one too many
  overflows : length before ≡ most → made_within w given seed most ≡ Err TooManyEvents
  overflows is =
      let long : length (before ++ due ∷ []) ≡ length before + 1 = length-append before (due ∷ []) in
      let front : Continues (before ++ due ∷ []) (after_turns w given seed turns).events = subst (Continues (before ++ due ∷ [])) (sym are) begins in
      let longer : length (before ++ due ∷ []) ≤ length (after_turns w given seed turns).events = front_length (before ++ due ∷ []) (after_turns w given seed turns).events front in
      made_overflows w given seed most turns few (omega arith)
      (λ place low. limit_on_front w given (before ++ due ∷ []) (after_turns w given seed turns).events place front (omega arith)
      ∙ limit_on_front w given before (before ++ due ∷ []) place (continues_with before (due ∷ [])) (omega arith)
      ∙ unmet place (omega arith))

  -- or it meets a limit
  meets_one : (limit : Limit) → length before < most → limit_of_event w given due (execution_after w given before) ≡ Some limit → made_within w given seed most ≡ Err (fault_by (suc (length before)) limit)
  meets_one limit low met = made_stops w given seed most turns before due limit (subst (Continues (before ++ due ∷ [])) (sym are) begins) few low unmet met

-- an event of the turns that isn't done is the answer to the seed
module _ (w : Wiring) (given : Data) (seed turns : ℕ) (few : turns ≤ event_limit) (events : List Event) (are : (after_turns w given seed (suc turns)).events ≡ events) where
  one_more : (a most : ℕ) → a ≤ most → suc a ≤ suc most
  one_more a most low = omega arith

  fails_at : (fault : MakeFault) (fails : FailsIn w given events fault) → FailsAt w given fails.before fails.due fault → AnswersSo w given (made_of w given seed) (Err fault)
  fails_at NoMemory fails at = tt
  fails_at TooManyEvents fails at = made_is w given seed ∙ overflows w given seed (suc turns) event_limit (one_more turns event_limit few) events are fails.before fails.due fails.begins fails.unmet at
  fails_at (TooManyRows number) fails at =
      made_is w given seed
      ∙ meets_one w given seed (suc turns) event_limit (one_more turns event_limit few) events are fails.before fails.due fails.begins fails.unmet too_many_rows at.1.few at.1.meets
      ∙ ap (λ n. Err (TooManyRows n)) (sym at.0)
  fails_at (TooManyMessages number) fails at =
      made_is w given seed
      ∙ meets_one w given seed (suc turns) event_limit (one_more turns event_limit few) events are fails.before fails.due fails.begins fails.unmet too_many_messages at.1.few at.1.meets
      ∙ ap (λ n. Err (TooManyMessages n)) (sym at.0)

  pub fails_so : (fault : MakeFault) → FailsIn w given events fault → AnswersSo w given (made_of w given seed) (Err fault)
  fails_so fault fails = fails_at fault fails fails.fails

-- where nothing is open the events are answered, and nothing is left
pub ends_so : (v : View) (given : Data) (seed : ℕ) (loaded : List (Option Program)) (tables : List Sets) (b : Books) (m : Making) (turned : HasTurned v given seed loaded tables b m)
    → length m.made ≤ event_limit → open_works (wiring_of v) given (execution_in turned.run.stands.books) ≡ [] → left_count (wiring_of v) given (execution_in turned.run.stands.books) ≡ 0
    → AnswersSo (wiring_of v) given (made_of (wiring_of v) given seed) (Ok m.made)
ends_so v given seed loaded tables b m turned few none left =
    let w : Wiring = wiring_of v in
    let after : execution_after w given m.made ≡ execution_in turned.run.stands.books = after_is v given loaded tables b m.made turned.run.stands in (
      made_is w given seed
          ∙ made_ends w given seed event_limit turned.turns m.made (sym (ap (λ (c : Course). c.events) turned.course)) (few_turns turned.turns (length m.made) event_limit turned.few few)
          (ap (open_works w given) after ∙ none) few turned.run.unmet,
      record {
        legal = events_run v given loaded tables b m.made turned.run.stands ∙ ap (λ (y : Execution). Ok y) (sym after);
        left = ap (left_count w given) after ∙ left;
      },
    )
  where
    few_turns : (a b most : ℕ) → a ≤ b → b ≤ most → a ≤ suc most
    few_turns a b most low high = omega arith

-- ---- what a turn says of whatever data and seed

-- of whatever data and steps the books stand for, the next draw chooses this event
abbrev pub Chooses : View → Books → (draws : ℕ) → Event → Type 0
Chooses v b draws e = (given : Data) (steps : List Step) (stand : BooksStand v given steps b) → slice_get (open_works (wiring_of v) given (execution_in stand)) (drawn_number (next_state draws) % length (open_works (wiring_of v) given (execution_in stand))) ≡ Some e

-- so it does where the work with its number among all works is that of the event
pub chosen_is : (v : View) (b : Books) (k : Works) (index number total draws now : ℕ) (work : Work) → AreWorksOf v k → AreShown v b k → IsOpenWork v b index work
    → index ≡ number % total → total ≡ sum k.sizes → number ≡ drawn_number now → now ≡ next_state draws → Chooses v b draws (work_event work)
chosen_is v b k index number total draws now work works shown is at all drawn next given steps stand =
    let many : total ≡ length (open_works (wiring_of v) given (execution_in stand)) = all ∙ total_is v given steps b stand k works (shown given steps stand) in
    let same : index ≡ drawn_number (next_state draws) % length (open_works (wiring_of v) given (execution_in stand)) =
    at ∙ ap (λ n. n % total) (drawn ∙ ap drawn_number next) ∙ ap (λ n. drawn_number (next_state draws) % n) many in
    subst (λ n. slice_get (open_works (wiring_of v) given (execution_in stand)) n ≡ Some (work_event work)) same (is given steps stand)

module _ (v : View) (loaded : List (Option Program)) (tables next : List Sets) (old new : Books) (before after : Making) (later : List Event) (number now : ℕ) (e : Event) (chosen : Chooses v old before.draws e) (drawn : number ≡ drawn_number now) (state : now ≡ next_state before.draws)
    (called : Result (Unit {0}) MakeFault) (applies : AppliesEvents v loaded tables next old new before.made later (chosen_events number e) called) where
  number_is : chosen_events number e ≡ chosen_events (drawn_number (next_state before.draws)) e
  number_is = ap (λ n. chosen_events n e) (drawn ∙ ap drawn_number state)

  -- the turn is made
  pub turn_made : (x : Unit {0}) → called ≡ Ok x → after.made ≡ later → after.draws ≡ now → later ≡ before.made ++ chosen_events number e
      → Turns v loaded tables next old new before after (Ok tt)
  turn_made x is same drawn_on are given seed turned =
      turned_more v given seed loaded tables old before turned e (chosen given (map event before.made) turned.run.stands.books) next new after
      (subst (HasRun v given loaded next new) (sym same) (subst (λ q. AppliedSo v given loaded next new before.made later (chosen_events number e) q) is (applies given turned.run)))
      (drawn_on ∙ state)
      (same ∙ are ∙ ap (λ (l : List Event). before.made ++ l) number_is)

  failed : (given : Data) (r : Result (Unit {0}) MakeFault) → AppliedSo v given loaded next new before.made later (chosen_events number e) r → (fault : MakeFault) → r ≡ Err fault → FailsIn (wiring_of v) given (before.made ++ chosen_events number e) fault
  failed given (Ok x) so fault is = cc
  failed given (Err d) so fault is = let same : d ≡ fault = cc in subst (λ f. FailsIn (wiring_of v) given (before.made ++ chosen_events number e) f) same so

  -- or an event isn't done
  pub turn_fails : (late : Making) (last : List Sets) (newest : Books) (r : Result (Unit {0}) MakeFault) (fault : MakeFault) → CanBeWritten v before.made → called ≡ Err fault → IsErrAnd r (λ d. d ≡ fault) → Turns v loaded tables last old newest before late r
  turn_fails late last newest r fault can is handed given seed turned =
      let events : List Event = before.made ++ chosen_events number e in
      let are : (after_turns (wiring_of v) given seed (suc turned.turns)).events ≡ events =
      ap (λ (c : Course). c.events) (turns_more v given seed loaded tables old before turned e (chosen given (map event before.made) turned.run.stands.books))
      ∙ ap (λ (l : List Event). before.made ++ l) (sym number_is) in
      handed_fault (λ q. TurnedSo v given seed loaded last newest late q) r fault handed
      (fails_so (wiring_of v) given seed turned.turns (few_turns turned.turns (length before.made) event_limit turned.few can.few) events are fault
      (failed given called (applies given turned.run) fault is))
    where
      few_turns : (a b most : ℕ) → a ≤ b → b ≤ most → a ≤ most
      few_turns a b most low high = omega arith

-- ---- what is shown, by an equal topology

pub ready_on : (v also : View) → also ≡ v → (b : Books) (m : Making) → AreWorksOf also m.watch.works → IsWatched also m.watch → AreShown also b m.watch.works → CanBeWritten v m.made → IsReady v b m
ready_on v also same b m works watched shown written = subst (λ (u : View). IsReady u b m) same (record { works = works; watched = watched; shown = shown; written = written_there v also same m.made written })

pub ready_at : (v also : View) → also ≡ v → (b : Books) (m : Making) → IsReady v b m → IsReady also b m
ready_at v also same b m = subst (λ (u : View). IsReady u b m) (sym same)

pub ready_back : (v also : View) → also ≡ v → (b : Books) (m : Making) → IsReady also b m → IsReady v b m
ready_back v also same b m = subst (λ (u : View). IsReady u b m) same
