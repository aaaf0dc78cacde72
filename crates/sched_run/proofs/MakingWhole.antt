-- Turns from the first to the last: a net that stands for no step has turned not once, and where nothing is open the schedule is answered.
use Rattle.std.proofs.Common.{◌≡◌, ◌∙◌, ◌≤◌, ℕ, List, [], ◌∷◌, Option, Result, Ok, Err, IsErrAnd, length, map, sum, refl, sym, subst, ap, arith}
use Rattle.bloom_forms.specs.declared.program.Program.{Program}
use Rattle.bloom_forms.specs.Step.{Sets}
use Rattle.topo_forms.specs.Data.{Data}
use Rattle.topo_forms.specs.Valid.{IsValid}
use Rattle.topo_forms.specs.View.{View}
use Rattle.inbox.specs.Events.{Event, Step, event}
use Rattle.inbox.specs.Wiring.{wiring_of}
use Rattle.sched_net.specs.ScheduleLines.{events_of, Line, steps_of}
use Rattle.sched_net.specs.Net.{Stands, execution_in}
use Rattle.sched_net.specs.Numbered.{numbered}
use Rattle.sched_net.specs.declared.books.Books.{Books}
use Rattle.sched_run.specs.Made.{made_of, open_works, AnswersSo}
use Rattle.sched_run.specs.Making.{RunsFirst, AnswersMade, AnswersNumbered, HasMade, HasMadeNumbered, LeavesMade, LeavesNumbered, events_in}
use Rattle.sched_run.specs.Code.Making.{Goes, HasTurned, IsReady, StandsMade, TurnedSo, Turns}
use Rattle.sched_net.specs.declared.fault.MakeFault.{MakeFault}
use Rattle.sched_run.specs.declared.making.Making.{Making}
use Rattle.sched_run.proofs.MadeEnds.{nothing_left}
use Rattle.sched_run.proofs.MakingApplies.{handed_fault}
use Rattle.sched_run.proofs.MakingTurns.{ends_so}
use Rattle.sched_run.proofs.WorksLemmas.{total_is}

-- ---- no turn yet

-- a net that stands for no step has turned not once
pub turned_first : (v : View) (given : Data) (seed : ℕ) (loaded : List (Option Program)) (tables : List Sets) (b : Books) (m : Making)
    → Stands v given [] loaded tables b → m.draws ≡ seed → m.made ≡ [] → HasTurned v given seed loaded tables b m
turned_first v given seed loaded tables b m stands draws made = record {
  run = record {
    stands = subst (λ (events : List Event). Stands v given (map event events) loaded tables b) (sym made) stands;
    unmet = λ place below. absurd (omega (arith, below, ap (length {A = Event}) made));
  };
  turns = 0;
  course = λ i. record { state = sym draws i; events = sym made i };
  few = omega (arith);
}

-- ---- turns of the same topology

-- whatever data the net stood for at first, it has turned
abbrev pub HasTurnedOn : View → (seed : ℕ) → (loaded : List (Option Program)) → (tables now : List Sets) → (first b : Books) → Making → Type 0
HasTurnedOn v seed loaded tables now first b m = (given : Data) → Stands v given [] loaded tables first → HasTurned v given seed loaded now b m

module _ (v also : View) (same : also ≡ v) (seed : ℕ) (loaded running : List (Option Program)) (programs : running ≡ loaded) (tables now : List Sets) (first b : Books) (m : Making) (turned : HasTurnedOn v seed loaded tables now first b m) where
  -- so it goes on
  pub goes_first : RunsFirst v loaded tables first → Goes also running now b m.made
  goes_first runs =
      subst (λ (u : View). Goes u running now b m.made) (sym same)
      (subst (λ (l : List (Option Program)). Goes v l now b m.made) (sym programs)
      (record { given = runs.given; run = (turned runs.given runs.stands).run }))

  module _ (next : List Sets) (new : Books) (after : Making) (result : Result (Unit {0}) MakeFault) (turns : Turns also running now next b new m after result) where
    own : Turns v loaded now next b new m after result
    own = subst (λ (u : View). Turns u loaded now next b new m after result) same (subst (λ (l : List (Option Program)). Turns also l now next b new m after result) programs turns)

    -- one turn more
    pub turned_on : (x : Unit {0}) → result ≡ Ok x → HasTurnedOn v seed loaded tables next first new after
    turned_on x is given stands = subst (λ q. TurnedSo v given seed loaded next new after q) is (own given seed (turned given stands))

    -- or an answer
    failed : (given : Data) (r : Result (Unit {0}) MakeFault) → TurnedSo v given seed loaded next new after r → (fault : MakeFault) → r ≡ Err fault → AnswersSo (wiring_of v) given (made_of (wiring_of v) given seed) (Err fault)
    failed given (Ok x) so fault is = cc
    failed given (Err d) so fault is = let same_fault : d ≡ fault = cc in subst (λ f. AnswersSo (wiring_of v) given (made_of (wiring_of v) given seed) (Err f)) same_fault so

    pub made_fault : (r : Result (List Event) MakeFault) (fault : MakeFault) → result ≡ Err fault → IsErrAnd r (λ d. d ≡ fault) → AnswersNumbered v loaded tables first seed r
    made_fault r fault is handed given stands =
        handed_fault (λ q. AnswersSo (wiring_of v) given (made_of (wiring_of v) given seed) q) r fault handed (failed given result (own given seed (turned given stands)) fault is)

  -- ---- the end

  no_more : {X : Type 0} (xs : List X) → length xs ≤ 0 → xs ≡ []
  no_more [] few = refl
  no_more (x ∷ xs) few = absurd (omega arith)

  pub made_whole : IsValid v → IsReady v b m → (total : ℕ) → total ≡ sum m.watch.works.sizes → total ≤ 0 → AnswersNumbered v loaded tables first seed (Ok m.made)
  made_whole valid ready total all none given stands =
      let has : HasTurned v given seed loaded now b m = turned given stands in
      let stand = has.run.stands.books in
      let many : sum m.watch.works.sizes ≡ length (open_works (wiring_of v) given (execution_in stand)) = total_is v given (map event m.made) b stand m.watch.works ready.works (ready.shown given (map event m.made) stand) in
      let idle : open_works (wiring_of v) given (execution_in stand) ≡ [] = no_more (open_works (wiring_of v) given (execution_in stand)) (omega (arith, many, all, none)) in
      ends_so v given seed loaded now b m has ready.written.few idle (nothing_left v valid given (execution_in stand) idle)

  pub stands_whole : StandsMade v loaded tables now first b m.made
  stands_whole given stands = (turned given stands).run.stands

-- ---- the schedule of events that were made

-- the steps of lines are those of their events
steps_are : (v : View) (lines : List Line) → map event (events_of v lines) ≡ steps_of v lines
steps_are v [] = refl
steps_are v (line ∷ lines) = ap (λ (l : List Step). event (numbered v line.1) ∷ l) (steps_are v lines)

module _ (v : View) (seed : ℕ) (loaded : List (Option Program)) (tables next : List Sets) (old new : Books) (result : Result (List Event) MakeFault) where
  -- a fault stays what it is
  pub fault_answers : (r : Result (List Line) MakeFault) (fault : MakeFault) → AnswersNumbered v loaded tables old seed result → result ≡ Err fault → IsErrAnd r (λ d. d ≡ fault) → AnswersMade v loaded tables old seed r
  fault_answers r fault answers is handed given stands =
      handed_fault (λ q. AnswersSo (wiring_of v) given (made_of (wiring_of v) given seed) (events_in v q)) r fault handed
      (subst (λ q. AnswersSo (wiring_of v) given (made_of (wiring_of v) given seed) q) is (answers given stands))

  pub fault_leaves : (r : Result (List Line) MakeFault) (fault : MakeFault) → LeavesNumbered v loaded tables next old new result → result ≡ Err fault → IsErrAnd r (λ d. d ≡ fault) → LeavesMade v loaded tables next old new r
  fault_leaves r fault leaves is handed given stands =
      handed_fault (λ q. HasMade v given loaded next new q) r fault handed (subst (λ q. HasMadeNumbered v given loaded next new q) is (leaves given stands))

  -- and events are written with the names of an equal topology
  module _ (also : View) (same : also ≡ v) (events : List Event) (is : result ≡ Ok events) (lines : List Line) (are : events_of also lines ≡ events) where
    names_are : events ≡ events_of v lines
    names_are = sym are ∙ ap (λ (u : View). events_of u lines) same

    pub named_answers : AnswersNumbered v loaded tables old seed result → AnswersMade v loaded tables old seed (Ok lines)
    named_answers answers given stands =
        subst (λ (l : List Event). AnswersSo (wiring_of v) given (made_of (wiring_of v) given seed) (Ok l)) names_are
        (subst (λ q. AnswersSo (wiring_of v) given (made_of (wiring_of v) given seed) q) is (answers given stands))

    pub named_leaves : LeavesNumbered v loaded tables next old new result → LeavesMade v loaded tables next old new (Ok lines)
    named_leaves leaves given stands =
        subst (λ (steps : List Step). Stands v given steps loaded next new) (ap (map event) names_are ∙ steps_are v lines)
        (subst (λ q. HasMadeNumbered v given loaded next new q) is (leaves given stands))
