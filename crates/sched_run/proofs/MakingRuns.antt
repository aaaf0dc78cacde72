-- An event after others: where it is done, the net has run through one event more, and where it isn't, the reason is that of the event.
use Rattle.std.proofs.Common.{◌≡◌, ◌∙◌, ◌<◌, ◌++◌, ℕ, suc, List, [], ◌∷◌, Option, None, Some, Result, Ok, Err, map, length, refl, sym, subst, ap}
use Rattle.std.specs.Result.{result_unwrap_or}
use Rattle.std.proofs.lemmas.List.{map-append}
use Rattle.bloom_forms.specs.declared.program.Program.{Program}
use Rattle.bloom_forms.specs.Step.{Sets}
use Rattle.topo_forms.specs.Data.{Data}
use Rattle.topo_forms.specs.View.{View}
use Rattle.inbox.specs.Events.{Step, Event, event, Refusal, no_instance, no_message, nothing_to_take}
use Rattle.inbox.specs.Executions.{Execution, first_execution, after_event, execution_of, execution_of_events}
use Rattle.inbox.specs.Growth.{Continues}
use Rattle.inbox.specs.Wiring.{Wiring, wiring_of}
use Rattle.inbox.proofs.Executions.Appending.{legal_more}
use Rattle.inbox.proofs.Executions.Results.{Ok_same}
use Rattle.inbox.proofs.Lists.Growing.{continues_itself, continues_on}
use Rattle.sched_net.specs.Answers.{Answers, answer_at, answer_to, fault_at}
use Rattle.inbox.specs.Limits.{Limit, too_many_rows, too_many_messages, limit_of_event}
use Rattle.sched_net.specs.Net.{Stands, EventAnswers, EventLeaves, execution_in}
use Rattle.sched_net.specs.declared.books.Books.{Books}
use Rattle.messages.specs.declared.fault.EventFault.{EventFault}
use Rattle.messages.specs.declared.fault.EventFault.TheVariants.{NoInstance, NoMessage, NothingToTake, TooManyRows, TooManyMessages, NoMemory}
use Rattle.sched_run.specs.Made.{event_limit, execution_after}
use Rattle.sched_run.specs.Code.Making.{EndsNet, fault_with, HasRun, MeetsLimit, FailsAt, FailsIn}
use Rattle.sched_net.specs.declared.fault.MakeFault.{MakeFault}
use Rattle.sched_net.specs.declared.fault.MakeFault.TheVariants as make_fault
use Rattle.sched_run.proofs.TurnsLemmas.{none_more}

-- ---- the answer to a legal event

ends : (limit : Option Limit) (fault : EventFault) → Err fault ≡ answer_at limit → EndsNet fault
ends None fault e = cc
ends (Some too_many_rows) fault e = let same : fault ≡ TooManyRows = cc in subst EndsNet (sym same) tt
ends (Some too_many_messages) fault e = let same : fault ≡ TooManyMessages = cc in subst EndsNet (sym same) tt

module _ (after : Result Execution Refusal) (limit : Option Limit) where
  -- its faults end the net
  pub legal_ends : (y : Execution) (fault : EventFault) → after ≡ Ok y → Answers after limit (Err fault) → EndsNet fault
  legal_ends y NoInstance is answers = ends limit NoInstance (answers (λ bad. cc) ∙ ap (λ a. answer_to a limit) is)
  legal_ends y NoMessage is answers = ends limit NoMessage (answers (λ bad. cc) ∙ ap (λ a. answer_to a limit) is)
  legal_ends y NothingToTake is answers = ends limit NothingToTake (answers (λ bad. cc) ∙ ap (λ a. answer_to a limit) is)
  legal_ends y TooManyRows is answers = tt
  legal_ends y TooManyMessages is answers = tt
  legal_ends y NoMemory is answers = tt

none_met : (after : Result Execution Refusal) (limit : Option Limit) → Answers after limit (Ok tt) → limit ≡ None
none_met (Ok y) None answers = refl
none_met (Ok y) (Some limit) answers = let is : Ok tt ≡ Err (fault_at limit) = answers (λ bad. cc) in cc
none_met (Err refusal) limit answers = let is : Ok tt ≡ answer_to (Err refusal) limit = answers (λ bad. cc) in cc

rows_met : (after : Result Execution Refusal) (limit : Option Limit) → Err TooManyRows ≡ answer_to after limit → limit ≡ Some too_many_rows
rows_met (Ok y) None e = cc
rows_met (Ok y) (Some too_many_rows) e = refl
rows_met (Ok y) (Some too_many_messages) e = cc
rows_met (Err no_instance) limit e = cc
rows_met (Err no_message) limit e = cc
rows_met (Err nothing_to_take) limit e = cc

messages_met : (after : Result Execution Refusal) (limit : Option Limit) → Err TooManyMessages ≡ answer_to after limit → limit ≡ Some too_many_messages
messages_met (Ok y) None e = cc
messages_met (Ok y) (Some too_many_rows) e = cc
messages_met (Ok y) (Some too_many_messages) e = refl
messages_met (Err no_instance) limit e = cc
messages_met (Err no_message) limit e = cc
messages_met (Err nothing_to_take) limit e = cc

-- ---- events

module _ (v : View) (given : Data) (loaded : List (Option Program)) (tables : List Sets) (b : Books) (events : List Event) (stands : Stands v given (map event events) loaded tables b) where
  -- they are legal, and the net stands for the execution after them
  pub events_run : execution_of_events (wiring_of v) given events ≡ Ok (execution_in stands.books)
  events_run = stands.books.stands.run

  pub after_is : execution_after (wiring_of v) given events ≡ execution_in stands.books
  after_is = ap (λ r. result_unwrap_or r first_execution) events_run

-- ---- one event

module _ (v : View) (given : Data) (loaded : List (Option Program)) (tables next : List Sets) (old new : Books) (events : List Event) (run : HasRun v given loaded tables old events) (e : Event) where
  abbrev w : Wiring
  w = wiring_of v

  abbrev x : Execution
  x = execution_in run.stands.books

  -- it is done
  pub run_more : EventAnswers v loaded tables old e (Ok tt) → EventLeaves v loaded tables next old new e (Ok tt) → HasRun v given loaded next new (events ++ e ∷ [])
  run_more answers leaves =
      let none : limit_of_event w given e x ≡ None = none_met (after_event w given e x) (limit_of_event w given e x) (answers given (map event events) run.stands) in
      record {
        stands = subst (λ (steps : List Step). Stands v given steps loaded next new) (sym (map-append event events (e ∷ []))) (leaves given (map event events) run.stands);
        unmet = none_more w given events e run.unmet (ap (limit_of_event w given e) (after_is v given loaded tables old events run.stands) ∙ none);
      }

  -- it isn't
  fails_here : (fault : MakeFault) → FailsAt w given events e fault → FailsIn w given (events ++ e ∷ []) fault
  fails_here fault fails = record {
    before = events;
    due = e;
    begins = continues_itself (events ++ e ∷ []);
    unmet = run.unmet;
    fails = fails;
  }

  module _ (few : length events < event_limit) (number : ℕ) (is : number ≡ suc (length events)) where
    limit_here : (limit : Limit) → limit_of_event w given e x ≡ Some limit → (number ≡ suc (length events)) × MeetsLimit w given events e limit
    limit_here limit met = (
      is,
      record {
        few = few;
        meets = ap (limit_of_event w given e) (after_is v given loaded tables old events run.stands) ∙ met;
      },
    )

    fails_at : (fault : EventFault) → EventAnswers v loaded tables old e (Err fault) → FailsAt w given events e (fault_with fault number)
    fails_at NoInstance answers = tt
    fails_at NoMessage answers = tt
    fails_at NothingToTake answers = tt
    fails_at TooManyRows answers = limit_here too_many_rows (rows_met (after_event w given e x) (limit_of_event w given e x) (answers given (map event events) run.stands (λ bad. cc)))
    fails_at TooManyMessages answers = limit_here too_many_messages (messages_met (after_event w given e x) (limit_of_event w given e x) (answers given (map event events) run.stands (λ bad. cc)))
    fails_at NoMemory answers = tt

    pub run_fails : (fault : EventFault) → EventAnswers v loaded tables old e (Err fault) → FailsIn w given (events ++ e ∷ []) (fault_with fault number)
    run_fails fault answers = fails_here (fault_with fault number) (fails_at fault answers)

module _ (v : View) (given : Data) (loaded : List (Option Program)) (tables : List Sets) (b : Books) (events : List Event) (run : HasRun v given loaded tables b events) (e : Event) where
  -- memory runs out before it or after it
  pub no_memory : FailsIn (wiring_of v) given (events ++ e ∷ []) make_fault.NoMemory
  no_memory = record {
    before = events;
    due = e;
    begins = continues_itself (events ++ e ∷ []);
    unmet = run.unmet;
    fails = tt;
  }

  -- it is one too many
  pub too_many : length events ≡ event_limit → FailsIn (wiring_of v) given (events ++ e ∷ []) make_fault.TooManyEvents
  too_many is = record {
    before = events;
    due = e;
    begins = continues_itself (events ++ e ∷ []);
    unmet = run.unmet;
    fails = is;
  }

-- ---- one event after another

-- what fails in a front fails in the whole
pub fails_on : (w : Wiring) (given : Data) (events all : List Event) (fault : MakeFault) → Continues events all → FailsIn w given events fault → FailsIn w given all fault
fails_on w given events all fault more fails = record {
  before = fails.before;
  due = fails.due;
  begins = continues_on (fails.before ++ fails.due ∷ []) events all fails.begins more;
  unmet = fails.unmet;
  fails = fails.fails;
}

-- a legal event more
pub events_legal : (w : Wiring) (given : Data) (events : List Event) (e : Event) (x y : Execution) → execution_of_events w given events ≡ Ok x → after_event w given e x ≡ Ok y → execution_of_events w given (events ++ e ∷ []) ≡ Ok y
events_legal w given events e x y run legal =
    ap (execution_of w given) (map-append event events (e ∷ [])) ∙ legal_more w given (map event events) (event e) x y run legal

-- where an event was legal, the net stands for what it made
pub next_is : (v : View) (given : Data) (loaded : List (Option Program)) (tables next : List Sets) (old new : Books) (events after : List Event) (e : Event) (y : Execution) (run : HasRun v given loaded tables old events) (later : HasRun v given loaded next new after)
    → after ≡ events ++ e ∷ [] → after_event (wiring_of v) given e (execution_in run.stands.books) ≡ Ok y → execution_in later.stands.books ≡ y
next_is v given loaded tables next old new events after e y run later are legal =
    Ok_same (execution_of_events (wiring_of v) given after) (execution_in later.stands.books) y (events_run v given loaded next new after later.stands)
    (ap (execution_of_events (wiring_of v) given) are ∙ events_legal (wiring_of v) given events e (execution_in run.stands.books) y (events_run v given loaded tables old events run.stands) legal)
