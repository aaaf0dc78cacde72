-- How a taking ends: refused, at a limit, without memory, or done.
use Rattle.std.proofs.Common.{◌≡◌, ◌<◌, ℕ, true, false, Option, None, Some, List, [], ◌∷◌, length, get_or, slice_get, refl, ap, ◌∙◌, sym, subst, Ok, Err}
use Rattle.std.specs.Prelude.{IsSome}
use Rattle.std.specs.List.{All}
use Rattle.std.proofs.lemmas.Option.{slice_get-get_or, slice_get_within, get_or_from_slice_get}
use Rattle.bloom_eval.specs.Step.{Arrive}
use Rattle.blz_pool.specs.Pool.{IsPool}
use Rattle.blz_value.specs.Members.{Has}
use Rattle.blz_value.proofs.Membership.{Has-get_or}
use Rattle.bloom_forms.specs.declared.program.Program.{Program}
use Rattle.bloom_forms.specs.Step.{Sets}
use Rattle.topo_forms.specs.Data.{Data}
use Rattle.topo_forms.specs.Valid.{IsValid}
use Rattle.topo_forms.specs.View.{View, component_at, replicas_of}
use Rattle.inbox.specs.Events.{Step, take_one}
use Rattle.inbox.specs.Growth.{Continues}
use Rattle.blz_pool.specs.Entries.{EntryId, entry_with_id}
use Rattle.bloom_eval.specs.Arrivals.{timestep_of}
use Rattle.inbox.specs.Wiring.{wiring_of}
use Rattle.sched_net.specs.Answers.{answer_to, answer_at, fault_at}
use Rattle.inbox.specs.Limits.{Limit, too_many_rows, too_many_messages, limit_of_event}
use Rattle.messages.specs.Lists.{IsExact, read_lists, list_at}
use Rattle.sched_net.specs.Net.{Stands, Runs, EventAnswers, execution_in}
use Rattle.inbox.specs.Outlets.{OthersStay, outlets_for}
use Rattle.inbox.specs.Places.{instance_place}
use Rattle.sched_net.specs.Code.Hearing.{EventLeavesOpen}
use Rattle.inbox.specs.Running.{EmitsAt, MeetsAt}
use Rattle.messages.specs.Faults.{IsLegal}
use Rattle.sched_net.specs.Taking.{takes_itself, taken_in, IsNext, entry_sets_off, EarChanges, took_one}
use Rattle.sched_net.specs.declared.books.Books.{Books}
use Rattle.messages.specs.declared.fault.EventFault.{EventFault}
use Rattle.messages.specs.declared.fault.EventFault.TheVariants.{NoInstance, NoMessage, NothingToTake, TooManyRows, TooManyMessages, NoMemory}
use Rattle.inbox.specs.declared.outlets.Outlet.{Outlet}
use Rattle.sched_net.specs.declared.seated.Seated.{Seated}
use Rattle.sched_net.proofs.CourseLemmas.{runs_here, shell_inside, outlets_inside}
use Rattle.sched_net.proofs.OrderingLemmas.{TakesThere, takes_there, not_taking, seat_at, nothing_taken, entry_arrives, legal_taking, taking_meets, taking_fits, taking_stands}
use Rattle.inbox.proofs.PlacesLemmas.{place-before}

-- ---- without an entry

pub answers_absent : (v : View) (loaded : List (Option Program)) (tables : List Sets) (b : Books) (c r : ℕ) → takes_itself v c r ≡ false → EventAnswers v loaded tables b (take_one c r) (Err NoInstance)
answers_absent v loaded tables b c r off given steps stands memory = sym (ap (λ a. answer_to a (limit_of_event (wiring_of v) given (take_one c r) (execution_in stands.books))) (not_taking v given c r (execution_in stands.books) off))

pub answers_nothing : (v : View) (loaded : List (Option Program)) (tables : List Sets) (b : Books) (c r place : ℕ) (entry : Option EntryId) → IsValid v → takes_itself v c r ≡ true → place ≡ instance_place v c r → IsNext b c place entry → entry ≡ None
    → EventAnswers v loaded tables b (take_one c r) (Err NothingToTake)
answers_nothing v loaded tables b c r place entry valid takes place_is next none given steps stands memory =
    sym (ap (λ a. answer_to a (limit_of_event (wiring_of v) given (take_one c r) (execution_in stands.books)))
    (nothing_taken v given steps loaded tables b valid stands c r takes (subst (λ o. IsNext b c (instance_place v c r) o) none (subst (λ p. IsNext b c p entry) place_is next))))

-- ---- what is there

pub seat_inside : (v : View) (loaded : List (Option Program)) (tables : List Sets) (b : Books) (c r place : ℕ) → takes_itself v c r ≡ true → place ≡ instance_place v c r → Runs v loaded tables b → place < length b.seats.items
seat_inside v loaded tables b c r place takes place_is runs =
    let is = takes_there v c r takes in
    subst (λ p. p < length b.seats.items) (sym place_is)
    (subst (λ n. instance_place v c r < n) (sym runs.stands.books.instances.count) (place-before (replicas_of v) c r (length v.components) is.within is.there))

pub shell_there : (v : View) (loaded : List (Option Program)) (tables : List Sets) (b : Books) (c r place : ℕ) → takes_itself v c r ≡ true → place ≡ instance_place v c r → IsValid v → Runs v loaded tables b → place < length loaded
shell_there v loaded tables b c r place takes place_is valid runs =
    let is = takes_there v c r takes in
    subst (λ p. p < length loaded) (sym place_is) (shell_inside v runs.given runs.steps loaded tables b valid runs.stands c r is.there is.within)

pub shell_runs : (v : View) (loaded : List (Option Program)) (tables : List Sets) (b : Books) (c r place : ℕ) → takes_itself v c r ≡ true → place ≡ instance_place v c r → IsValid v → Runs v loaded tables b → IsSome (get_or loaded place None)
shell_runs v loaded tables b c r place takes place_is valid runs =
    let is = takes_there v c r takes in
    subst (λ p. IsSome (get_or loaded p None)) (sym place_is) (runs_here v runs.given runs.steps loaded tables b valid runs.stands c r is.there is.within)

-- the next entry, at the place of the instance, with what its component has
pub record IsTaking (v : View) (b : Books) (c r place ports : ℕ) (entry : EntryId) (outlets : List Outlet) : Type 0 where
  pub valid : IsValid v
  pub takes : takes_itself v c r ≡ true
  pub place_is : place ≡ instance_place v c r
  pub found : Option EntryId
  pub next : IsNext b c place found
  pub is : found ≡ Some entry
  pub ports_are : ports ≡ length (component_at v c).ports
  pub seat : Seated
  pub at : seat ≡ get_or b.seats.items place seat
  pub outlets_are : outlets ≡ seat.outlets

module _ (v : View) (loaded : List (Option Program)) (tables : List Sets) (b : Books) (c r place ports : ℕ) (entry : EntryId) (outlets : List Outlet) (t : IsTaking v b c r place ports entry outlets) where
  own : TakesThere v c r
  own = takes_there v c r t.takes

  next_here : IsNext b c (instance_place v c r) (Some entry)
  next_here = subst (λ o. IsNext b c (instance_place v c r) o) t.is (subst (λ p. IsNext b c p t.found) t.place_is t.next)

  outlets_here : (given : Data) (steps : List Step) → Stands v given steps loaded tables b → outlets ≡ outlets_for v c r
  outlets_here given steps stands =
      let inside : place < length b.seats.items = seat_inside v loaded tables b c r place t.takes t.place_is (record { given = given; steps = steps; stands = stands }) in
      let at = slice_get-get_or b.seats.items place t.seat inside ∙ ap (λ s. Some s) (sym t.at) in
      let shown = stands.books.instances.each c r t.seat own.there own.within (subst (λ p. slice_get b.seats.items p ≡ Some t.seat) t.place_is at) in
      t.outlets_are ∙ shown.outlets

  pub entry_given : Runs v loaded tables b → entry.1 < length b.lists.records
  entry_given runs =
      let seat = seat_at v runs.given runs.steps b runs.stands.books c r own.there own.within in
      let at = sym (next_here seat.0 seat.1) in
      runs.stands.books.logs.given c own.there entry
      (subst (λ e. Has e (list_at b.logs.items c)) (get_or_from_slice_get (list_at b.logs.items c) (taken_in seat.0.ear) entry entry at)
      (Has-get_or (list_at b.logs.items c) (taken_in seat.0.ear) entry (slice_get_within (list_at b.logs.items c) (taken_in seat.0.ear) entry at)))

  pub outlets_within : Runs v loaded tables b → All (λ o. o.place < length b.lists.lists) outlets
  outlets_within runs =
      subst (λ os. All (λ o. o.place < length b.lists.lists) os) (sym (outlets_here runs.given runs.steps runs.stands))
      (outlets_inside v runs.given runs.steps loaded tables b t.valid runs.stands c r own.there own.within)

  pub arrives_here : Runs v loaded tables b → Arrive (get_or loaded place None) (timestep_of ports (entry_with_id b.lists.records entry ∷ []))
  arrives_here runs =
      subst (λ p. Arrive (get_or loaded p None) (timestep_of ports (entry_with_id b.lists.records entry ∷ []))) (sym t.place_is)
      (subst (λ n. Arrive (get_or loaded (instance_place v c r) None) (timestep_of n (entry_with_id b.lists.records entry ∷ []))) (sym t.ports_are)
      (entry_arrives v runs.given runs.steps loaded tables b t.valid runs.stands c r t.takes entry next_here))

  -- a limit that is met
  pub answers_limit : (limit : Limit) → MeetsAt limit loaded place outlets tables (read_lists b.lists) (entry_sets_off b.lists.records ports entry) → EventAnswers v loaded tables b (take_one c r) (Err (fault_at limit))
  answers_limit limit meets given steps stands memory =
      let at : MeetsAt limit loaded (instance_place v c r) (outlets_for v c r) tables (read_lists b.lists) (entry_sets_off b.lists.records (length (component_at v c).ports) entry) =
      subst (λ n. MeetsAt limit loaded (instance_place v c r) (outlets_for v c r) tables (read_lists b.lists) (entry_sets_off b.lists.records n entry)) t.ports_are
      (subst (λ os. MeetsAt limit loaded (instance_place v c r) os tables (read_lists b.lists) (entry_sets_off b.lists.records ports entry)) (outlets_here given steps stands)
      (subst (λ p. MeetsAt limit loaded p outlets tables (read_lists b.lists) (entry_sets_off b.lists.records ports entry)) t.place_is meets)) in
      sym (ap (λ a. answer_to a (limit_of_event (wiring_of v) given (take_one c r) (execution_in stands.books))) (legal_taking v given steps loaded tables b t.valid stands c r t.takes entry next_here)
      ∙ ap answer_at (taking_meets v given steps loaded tables b t.valid stands c r t.takes entry next_here limit at))

  pub answers_fault : (fault : EventFault) → IsLegal {X = Unit {0}} (Err fault)
      → (fault ≡ TooManyRows → MeetsAt too_many_rows loaded place outlets tables (read_lists b.lists) (entry_sets_off b.lists.records ports entry))
      → (fault ≡ TooManyMessages → MeetsAt too_many_messages loaded place outlets tables (read_lists b.lists) (entry_sets_off b.lists.records ports entry))
      → EventAnswers v loaded tables b (take_one c r) (Err fault)
  answers_fault NoInstance legal rows messages = absurd legal
  answers_fault NoMessage legal rows messages = absurd legal
  answers_fault NothingToTake legal rows messages = absurd legal
  answers_fault TooManyRows legal rows messages = answers_limit too_many_rows (rows refl)
  answers_fault TooManyMessages legal rows messages = answers_limit too_many_messages (messages refl)
  answers_fault NoMemory legal rows messages = λ given steps stands memory. absurd (memory refl)

  -- a taking that is done
  module _ (next : List Sets) (new : Books) (emits : EmitsAt loaded place outlets tables next (read_lists b.lists) (read_lists new.lists) (entry_sets_off b.lists.records ports entry)) where
    emits_here : (given : Data) (steps : List Step) → Stands v given steps loaded tables b → EmitsAt loaded (instance_place v c r) (outlets_for v c r) tables next (read_lists b.lists) (read_lists new.lists) (entry_sets_off b.lists.records (length (component_at v c).ports) entry)
    emits_here given steps stands =
        subst (λ n. EmitsAt loaded (instance_place v c r) (outlets_for v c r) tables next (read_lists b.lists) (read_lists new.lists) (entry_sets_off b.lists.records n entry)) t.ports_are
        (subst (λ os. EmitsAt loaded (instance_place v c r) os tables next (read_lists b.lists) (read_lists new.lists) (entry_sets_off b.lists.records ports entry)) (outlets_here given steps stands)
        (subst (λ p. EmitsAt loaded p outlets tables next (read_lists b.lists) (read_lists new.lists) (entry_sets_off b.lists.records ports entry)) t.place_is emits))

    pub answers_done : EventAnswers v loaded tables b (take_one c r) (Ok tt)
    answers_done given steps stands memory =
        sym (ap (λ a. answer_to a (limit_of_event (wiring_of v) given (take_one c r) (execution_in stands.books))) (legal_taking v given steps loaded tables b t.valid stands c r t.takes entry next_here)
        ∙ ap answer_at (taking_fits v given steps loaded tables b t.valid stands c r t.takes entry next_here next new (emits_here given steps stands)))

    pub leaves_done : Continues b.lists.records new.lists.records → IsPool new.lists.records → IsExact new.lists → OthersStay outlets (read_lists b.lists) (read_lists new.lists)
        → EarChanges place took_one b.seats.items new.seats.items → new.places ≡ b.places → new.logs ≡ b.logs → new.ended ≡ b.ended
        → EventLeavesOpen v loaded tables next b new (take_one c r) (Ok tt)
    leaves_done more pool exact stay ear places logs ended given steps stands =
        taking_stands v given steps loaded tables b t.valid stands c r t.takes entry next_here next new (emits_here given steps stands) more pool exact
        (subst (λ os. OthersStay os (read_lists b.lists) (read_lists new.lists)) (outlets_here given steps stands) stay)
        (subst (λ p. EarChanges p took_one b.seats.items new.seats.items) t.place_is ear) places logs ended
