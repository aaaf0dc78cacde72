-- How a hearing ends: refused, at a limit, without memory, or done; and what it leaves once a fault has ended the net.
use Rattle.std.proofs.Common.{◌≡◌, ◌⊎◌, inl, inr, ℕ, true, false, Option, List, [], ◌∷◌, ◌++◌, refl, ap, ◌∙◌, sym, subst}
use Rattle.std.specs.Prelude.{Result, Ok, Err}
use Rattle.bloom_forms.specs.declared.program.Program.{Program}
use Rattle.bloom_forms.specs.Step.{Sets}
use Rattle.topo_forms.specs.Data.{Data}
use Rattle.topo_forms.specs.View.{View}
use Rattle.inbox.specs.Wiring.{wiring_of, instance_at}
use Rattle.inbox.specs.Executions.{is_hearing, pairs_of}
use Rattle.inbox.specs.Events.{Part, Event, deliver, batch, Step, event, Refusal, no_instance, no_message}
use Rattle.messages.specs.declared.message.Message.{Message as IdMessage}
use Rattle.sched_net.specs.Answers.{answer_to, fault_of}
use Rattle.inbox.specs.Limits.{limit_of_event}
use Rattle.sched_net.specs.Net.{Stands, execution_in, EventLeaves}
use Rattle.sched_net.specs.Code.Hearing.{IsHearingOf, HearingAnswers, HearingLeaves, EventLeavesOpen, EndsAt}
use Rattle.messages.specs.Faults.{IsLegal}
use Rattle.sched_net.specs.Code.Parts.{PairsAnswer}
use Rattle.sched_net.specs.declared.books.Books.{Books}
use Rattle.messages.specs.declared.fault.EventFault.{EventFault}
use Rattle.messages.specs.declared.fault.EventFault.TheVariants.{NoInstance, NoMessage, NothingToTake, TooManyRows, TooManyMessages, NoMemory}
use Rattle.sched_net.proofs.HearingTests.{after_none, after_refused}

-- ---- events that are hearings

pub deliver_is : (part : Part) (c r : ℕ) → IsHearingOf (deliver part c r) (part ∷ []) c r
deliver_is part c r = record { after = λ w given x. refl; limit = λ w given x. refl }

pub batch_is : (parts : List Part) (c r : ℕ) → IsHearingOf (batch parts c r) parts c r
batch_is parts c r = record { after = λ w given x. refl; limit = λ w given x. refl }

module _ (v : View) (c r : ℕ) (loaded : List (Option Program)) (tables : List Sets) (old : Books) (parts : List Part) where
  -- ---- refusals

  pub answers_none : is_hearing (wiring_of v) c r parts ≡ false → HearingAnswers v loaded tables old parts c r (Err NoInstance)
  answers_none none e of given steps stands memory =
      sym (ap (λ a. answer_to a (limit_of_event (wiring_of v) given e (execution_in stands.books))) (of.after (wiring_of v) given (execution_in stands.books) ∙ after_none v given c r parts (execution_in stands.books) none))

  answers_refusal : (refusal : Refusal) → is_hearing (wiring_of v) c r parts ≡ true
      → ((given : Data) (steps : List Step) (stands : Stands v given steps loaded tables old) → pairs_of (wiring_of v) given (execution_in stands.books) (instance_at (wiring_of v) c r) parts ≡ Err refusal)
      → HearingAnswers v loaded tables old parts c r (Err (fault_of refusal))
  answers_refusal refusal is refused e of given steps stands memory =
      sym (ap (λ a. answer_to a (limit_of_event (wiring_of v) given e (execution_in stands.books))) (of.after (wiring_of v) given (execution_in stands.books) ∙ after_refused v given c r parts (execution_in stands.books) refusal is (refused given steps stands)))

  pub answers_memory : HearingAnswers v loaded tables old parts c r (Err NoMemory)
  answers_memory e of given steps stands memory = absurd (memory refl)

  pub answers_refused : {X : Type 0} (pairs : X → List (ℕ × IdMessage)) (fault : EventFault) → is_hearing (wiring_of v) c r parts ≡ true → PairsAnswer v old c r parts (Err fault) pairs → HearingAnswers v loaded tables old parts c r (Err fault)
  answers_refused pairs NoInstance is answer = answers_refusal no_instance is (λ given steps stands. answer given steps stands.books)
  answers_refused pairs NoMessage is answer = answers_refusal no_message is (λ given steps stands. answer given steps stands.books)
  answers_refused pairs NothingToTake is answer = λ e of given steps stands. absurd (answer given steps stands.books)
  answers_refused pairs TooManyRows is answer = λ e of given steps stands. absurd (answer given steps stands.books)
  answers_refused pairs TooManyMessages is answer = λ e of given steps stands. absurd (answer given steps stands.books)
  answers_refused pairs NoMemory is answer = answers_memory

  -- what is left where nothing changed
  pub leaves_same : (fault : EventFault) → HearingLeaves v loaded tables tables old old parts c r (Err fault)
  leaves_same NoInstance e of given steps stands = stands
  leaves_same NoMessage e of given steps stands = stands
  leaves_same NothingToTake e of given steps stands = stands
  leaves_same TooManyRows e of given steps stands = tt
  leaves_same TooManyMessages e of given steps stands = tt
  leaves_same NoMemory e of given steps stands = tt

  leaves_memory : (next : List Sets) (new : Books) → HearingLeaves v loaded tables next old new parts c r (Err NoMemory)
  leaves_memory next new e of given steps stands = tt

  -- or memory was wanting
  pub leaves_refused : (fault : EventFault) (new : Books) → (fault ≡ NoMemory) ⊎ (new ≡ old) → HearingLeaves v loaded tables tables old new parts c r (Err fault)
  leaves_refused fault new (inl memory) = subst (λ f. HearingLeaves v loaded tables tables old new parts c r (Err f)) (sym memory) (leaves_memory tables new)
  leaves_refused fault new (inr same) = subst (λ b. HearingLeaves v loaded tables tables old b parts c r (Err fault)) (sym same) (leaves_same fault)

  -- ---- limits

  -- a fault that is a limit answers as the limit does
  pub answers_limits : (fault : EventFault) → IsLegal {X = Unit {0}} (Err fault) → (fault ≡ TooManyRows → HearingAnswers v loaded tables old parts c r (Err TooManyRows)) → (fault ≡ TooManyMessages → HearingAnswers v loaded tables old parts c r (Err TooManyMessages))
      → HearingAnswers v loaded tables old parts c r (Err fault)
  answers_limits NoInstance legal rows messages = absurd legal
  answers_limits NoMessage legal rows messages = absurd legal
  answers_limits NothingToTake legal rows messages = absurd legal
  answers_limits TooManyRows legal rows messages = rows refl
  answers_limits TooManyMessages legal rows messages = messages refl
  answers_limits NoMemory legal rows messages = answers_memory

-- ---- once a fault has ended the net

pub ended_leaves : (v : View) (loaded : List (Option Program)) (tables next : List Sets) (old mid new : Books) (e : Event) (result : Result (Unit {0}) EventFault) → EventLeavesOpen v loaded tables next old mid e result → EndsAt mid new result → EventLeaves v loaded tables next old new e result
ended_leaves v loaded tables next old mid new e (Ok x) leaves ends given steps stands = subst (λ b. Stands v given (steps ++ event e ∷ []) loaded next b) (sym ends) (leaves given steps stands)
ended_leaves v loaded tables next old mid new e (Err NoInstance) leaves ends given steps stands = subst (λ b. Stands v given steps loaded next b) (sym ends) (leaves given steps stands)
ended_leaves v loaded tables next old mid new e (Err NoMessage) leaves ends given steps stands = subst (λ b. Stands v given steps loaded next b) (sym ends) (leaves given steps stands)
ended_leaves v loaded tables next old mid new e (Err NothingToTake) leaves ends given steps stands = subst (λ b. Stands v given steps loaded next b) (sym ends) (leaves given steps stands)
ended_leaves v loaded tables next old mid new e (Err TooManyRows) leaves ends given steps stands = ends
ended_leaves v loaded tables next old mid new e (Err TooManyMessages) leaves ends given steps stands = ends
ended_leaves v loaded tables next old mid new e (Err NoMemory) leaves ends given steps stands = ends
