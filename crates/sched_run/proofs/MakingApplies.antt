-- What applying a work says of whatever data the net stood for.
use Rattle.std.proofs.Common.{◌≡◌, ◌∙◌, ◌<◌, ◌++◌, ℕ, suc, true, false, List, [], ◌∷◌, Option, Result, Ok, Err, IsErrAnd, length, append_assoc, refl, sym, subst, ap}
use Rattle.bloom_forms.specs.declared.program.Program.{Program}
use Rattle.bloom_forms.specs.Step.{Sets}
use Rattle.topo_forms.specs.Data.{Data}
use Rattle.topo_forms.specs.View.{View}
use Rattle.inbox.specs.Events.{Event}
use Rattle.inbox.specs.Growth.{Continues}
use Rattle.inbox.specs.Wiring.{wiring_of}
use Rattle.sched_net.specs.Net.{EventAnswers, EventLeaves}
use Rattle.sched_net.specs.declared.books.Books.{Books}
use Rattle.messages.specs.declared.fault.EventFault.{EventFault}
use Rattle.sched_run.specs.Made.{event_limit, chosen_events, is_take, says_again}
use Rattle.sched_run.specs.Code.Making.{EndsNet, fault_with, GoesOn, HasRun, FailsIn, AppliedSo, AppliesEvents}
use Rattle.sched_net.specs.declared.fault.MakeFault.{MakeFault}
use Rattle.sched_net.specs.declared.fault.MakeFault.TheVariants.{TooManyEvents, NoMemory}
use Rattle.sched_run.proofs.MakingRuns.{fails_on, legal_ends, no_memory, run_fails, run_more, too_many}
use Rattle.sched_run.proofs.TurnsLemmas.{chosen_first, chosen_twice}

-- what holds of a fault holds of the answer that hands it on
pub handed_fault : {X : Type 0} (P : Result X MakeFault → Type 0) (r : Result X MakeFault) (fault : MakeFault) → IsErrAnd r (λ d. d ≡ fault) → P (Err fault) → P r
handed_fault P (Ok x) fault h p = absurd h
handed_fault P (Err d) fault h p = subst (λ f. P (Err f)) (sym h) p

-- ---- one event

-- a legal event is refused by no fault but those that end the net
pub legal_fault : (v : View) (loaded : List (Option Program)) (tables : List Sets) (b : Books) (events : List Event) (e d : Event) (result : Result (Unit {0}) EventFault) (fault : EventFault)
    → GoesOn v loaded tables b events e → d ≡ e → EventAnswers v loaded tables b d result → result ≡ Err fault → EndsNet fault
legal_fault v loaded tables b events e d result fault on same answers is =
    let own : EventAnswers v loaded tables b e (Err fault) = subst (λ q. EventAnswers v loaded tables b e q) is (subst (λ q. EventAnswers v loaded tables b q result) same answers) in
    legal_ends _ _ on.next fault on.legal (own on.given _ on.run.stands)

module _ (v : View) (loaded : List (Option Program)) (tables next : List Sets) (old new : Books) (events after : List Event) where
  -- where memory runs out
  pub applies_none : (e : Event) (r : Result (Unit {0}) MakeFault) → IsErrAnd r (λ d. d ≡ NoMemory) → AppliesEvents v loaded tables next old new events after (e ∷ []) r
  applies_none e r none given run = handed_fault (λ q. AppliedSo v given loaded next new events after (e ∷ []) q) r NoMemory none (no_memory v given loaded tables old events run e)

  -- one too many
  pub applies_many : (e : Event) → length events ≡ event_limit → AppliesEvents v loaded tables next old new events after (e ∷ []) (Err TooManyEvents)
  applies_many e is given run = too_many v given loaded tables old events run e is

  module _ (e d : Event) (number : ℕ) (same : d ≡ e) (result : Result (Unit {0}) EventFault) (answers : EventAnswers v loaded tables old d result) where
    own_answers : (r : Result (Unit {0}) EventFault) → result ≡ r → EventAnswers v loaded tables old e r
    own_answers r is = subst (λ q. EventAnswers v loaded tables old e q) is (subst (λ q. EventAnswers v loaded tables old q result) same answers)

    -- a fault
    pub applies_fault : (fault : EventFault) (made : MakeFault) → result ≡ Err fault → made ≡ fault_with fault number → length events < event_limit → number ≡ suc (length events)
        → AppliesEvents v loaded tables next old new events after (e ∷ []) (Err made)
    applies_fault fault made at so few first given run =
        subst (λ f. FailsIn (wiring_of v) given (events ++ e ∷ []) f) (sym so)
        (run_fails v given loaded tables next old new events run e few number first fault (own_answers (Err fault) at))

    -- an event that is done
    pub applies_done : (x : Unit {0}) → result ≡ Ok x → EventLeaves v loaded tables next old new d result → after ≡ events ++ d ∷ []
        → AppliesEvents v loaded tables next old new events after (e ∷ []) (Ok tt)
    applies_done x at leaves are given run =
        subst (HasRun v given loaded next new) (sym (are ∙ ap (λ (q : Event). events ++ q ∷ []) same))
        (run_more v given loaded tables next old new events run e (own_answers (Ok x) at)
        (subst (λ q. EventLeaves v loaded tables next old new e q) at (subst (λ q. EventLeaves v loaded tables next old new q result) same leaves)))

-- ---- the chosen events

module _ (v : View) (loaded : List (Option Program)) (tables next : List Sets) (old new : Books) (events after : List Event) (number : ℕ) (e : Event) where
  -- the first isn't done
  first_fails : (given : Data) (r : Result (Unit {0}) MakeFault) → AppliedSo v given loaded next new events after (e ∷ []) r → (fault : MakeFault) → r ≡ Err fault → FailsIn (wiring_of v) given (events ++ chosen_events number e) fault
  first_fails given (Ok x) so fault is = cc
  first_fails given (Err d) so fault is =
      let same : d ≡ fault = cc in
      let more = chosen_first number e in
      let longer : Continues (events ++ e ∷ []) (events ++ chosen_events number e) =
      record { more = more.more; with_more = append_assoc events (e ∷ []) more.more ∙ ap (λ (l : List Event). events ++ l) more.with_more } in
      fails_on (wiring_of v) given (events ++ e ∷ []) (events ++ chosen_events number e) fault longer
      (subst (λ f. FailsIn (wiring_of v) given (events ++ e ∷ []) f) same so)

  pub chosen_fails : (late : List Event) (called r : Result (Unit {0}) MakeFault) (fault : MakeFault) → AppliesEvents v loaded tables next old new events after (e ∷ []) called → called ≡ Err fault → IsErrAnd r (λ d. d ≡ fault)
      → AppliesEvents v loaded tables next old new events late (chosen_events number e) r
  chosen_fails late called r fault applies is handed given run =
      handed_fault (λ q. AppliedSo v given loaded next new events late (chosen_events number e) q) r fault handed (first_fails given called (applies given run) fault is)

  -- and once more
  pub chosen_again : (last : List Sets) (newest : Books) (late : List Event) (called again : Result (Unit {0}) MakeFault) (x : Unit {0}) → AppliesEvents v loaded tables next old new events after (e ∷ []) called → called ≡ Ok x
      → after ≡ events ++ e ∷ [] → chosen_events number e ≡ e ∷ e ∷ []
      → AppliesEvents v loaded next last new newest after late (e ∷ []) again → AppliesEvents v loaded tables last old newest events late (chosen_events number e) again
  chosen_again last newest late called again x applies is are twice more given run =
      let first : HasRun v given loaded next new after = subst (λ q. AppliedSo v given loaded next new events after (e ∷ []) q) is (applies given run) in
      by again (more given first)
    where
      joined : after ++ e ∷ [] ≡ events ++ chosen_events number e
      joined =
          ap (λ (l : List Event). l ++ e ∷ []) are
          ∙ append_assoc events (e ∷ []) (e ∷ [])
          ∙ ap (λ (l : List Event). events ++ l) (sym twice)

      by : (r : Result (Unit {0}) MakeFault) → AppliedSo v given loaded last newest after late (e ∷ []) r → AppliedSo v given loaded last newest events late (chosen_events number e) r
      by (Ok y) so = so
      by (Err fault) so = subst (λ (l : List Event). FailsIn (wiring_of v) given l fault) joined so

-- where the number says so and it isn't a take, there are two events, and else one
pub says_twice : (number : ℕ) (e : Event) → is_take e ≡ false → says_again number ≡ true → chosen_events number e ≡ e ∷ e ∷ []
says_twice number e other again = chosen_twice number e (rw (other, again) refl)

-- the second of them is seen by an equal topology and equal programs
pub chosen_there : (v also : View) (same : also ≡ v) (loaded running : List (Option Program)) (programs : running ≡ loaded) (tables next : List Sets) (old new : Books) (events after : List Event) (number : ℕ) (e : Event) (last : List Sets) (newest : Books) (late : List Event) (called again : Result (Unit {0}) MakeFault) (x : Unit {0})
    → AppliesEvents v loaded tables next old new events after (e ∷ []) called → called ≡ Ok x → after ≡ events ++ e ∷ [] → chosen_events number e ≡ e ∷ e ∷ []
    → AppliesEvents also running next last new newest after late (e ∷ []) again → AppliesEvents v loaded tables last old newest events late (chosen_events number e) again
chosen_there v also same loaded running programs tables next old new events after number e last newest late called again x applies is are twice more =
    chosen_again v loaded tables next old new events after number e last newest late called again x applies is are twice
    (subst (λ (u : View). AppliesEvents u loaded next last new newest after late (e ∷ []) again) same
    (subst (λ (l : List (Option Program)). AppliesEvents also l next last new newest after late (e ∷ []) again) programs more))
