-- A line more: where its step is done, the net reaches one step more, and where it is refused, the replay is.
use Rattle.std.proofs.Common.{◌≡◌, ◌≢◌, ◌∙◌, ◌+◌, ◌<◌, ◌≤◌, ◌++◌, ℕ, Bool, true, false, List, [], ◌∷◌, Option, None, Some, take, drop, length, get_or, append_assoc, append-nil, refl, sym, subst, ap}
use Rattle.std.specs.Prelude.{Result, Ok, Err, if◌then◌else◌}
use Rattle.std.specs.List.{fold}
use Rattle.std.proofs.lemmas.List.{map-append, take_more, take_all, take-append-drop}
use Rattle.std.proofs.lemmas.List.Sums.{fold-append}
use Rattle.std.proofs.lemmas.Option.{slice_get_read}
use Rattle.bloom_forms.specs.declared.program.Program.{Program}
use Rattle.bloom_forms.specs.Step.{Sets}
use Rattle.topo_forms.specs.Data.{Data}
use Rattle.topo_forms.specs.View.{View}
use Rattle.inbox.specs.Events.{Step, forget, Refusal, no_instance}
use Rattle.inbox.specs.Executions.{Execution, result_and_then, after_step, execution_of, with_lives}
use Rattle.inbox.specs.Lives.{forget_all}
use Rattle.inbox.specs.Wiring.{wiring_of, is_there}
use Rattle.inbox.proofs.Executions.Appending.{legal_more}
use Rattle.inbox.proofs.Executions.Results.{Ok_same}
use Rattle.messages.specs.declared.fault.EventFault.{EventFault}
use Rattle.messages.specs.declared.fault.EventFault.TheVariants.{NoInstance, NoMemory}
use Rattle.sched_net.specs.Answers.{Answers, answer_to, fault_of, fault_at}
use Rattle.sched_net.specs.Net.{Stands, Runs, execution_in}
use Rattle.sched_net.specs.declared.books.Books.{Books}
use Rattle.inbox.specs.Limits.{Limit}
use Rattle.sched_net.specs.Forgetting.{ForgetAnswers, ForgetLeaves, answer_to_forget}
use Rattle.sched_net.specs.declared.fault.ForgetFault.{ForgetFault}
use Rattle.sched_net.specs.Steps.{Applied, Reaches, after_line, after_lines, in_line, limit_of_step, made_by, numbered_step, steps_in}
use Rattle.sched_net.specs.Code.Stepping.{StepAnswers, StepLeaves}
use Rattle.sched_net.specs.declared.running.StepRefusal.{StepRefusal}
use Rattle.sched_net.specs.declared.step.Step.{Step as NamedStep}

-- ---- one answer

-- what is done was legal, and met no limit
done_made : (after : Result Execution Refusal) (limit : Option Limit) → Answers after limit (Ok tt) → (y : Execution) × (after ≡ Ok y) × (made_by after limit ≡ Ok y)
done_made (Ok y) None answers = (y, refl, refl)
done_made (Ok y) (Some limit) answers = let is : Ok tt ≡ Err (fault_at limit) = answers (λ bad. cc) in cc
done_made (Err refusal) limit answers = let is : Ok tt ≡ Err (fault_of refusal) = answers (λ bad. cc) in cc

-- a fault is that of the step, unless memory ran out
fault_made : (after : Result Execution Refusal) (limit : Option Limit) (fault : EventFault) → Answers after limit (Err fault) → fault ≢ NoMemory → made_by after limit ≡ Err fault
fault_made after limit fault answers other = from after limit (answers (λ is. other (cc)))
  where
    from : (after : Result Execution Refusal) (limit : Option Limit) → Err fault ≡ answer_to after limit → made_by after limit ≡ Err fault
    from (Ok y) None is = cc
    from (Ok y) (Some limit) is = let same : fault ≡ fault_at limit = cc in ap (λ f. Err f) (sym same)
    from (Err refusal) limit is = let same : fault ≡ fault_of refusal = cc in ap (λ f. Err f) (sym same)

-- ---- a forget

-- what it makes, by whether its instance is there
abbrev after_forget : (c r : ℕ) → Execution → Bool → Result Execution Refusal
after_forget c r x there = if there then Ok (with_lives c r forget_all x) else Err no_instance

nowhere : (c r : ℕ) (x : Execution) (there : Bool) (fault : ForgetFault) → Err fault ≡ answer_to_forget (after_forget c r x there) → Err NoInstance ≡ answer_to (after_forget c r x there) None
nowhere c r x true fault is = cc
nowhere c r x false fault is = refl

module _ (v : View) (loaded : List (Option Program)) (tables : List Sets) (old : Books) (c r : ℕ) where
  -- a forget that is done
  pub forget_done : ForgetAnswers v loaded tables old (forget c r) (Ok tt) → StepAnswers v loaded tables old (forget c r) (Ok tt)
  forget_done answers given steps stands _ = from (after_step (wiring_of v) given (forget c r) (execution_in stands.books)) (answers given steps stands)
    where
      from : (after : Result Execution Refusal) → Ok tt ≡ answer_to_forget after → Ok tt ≡ answer_to after None
      from (Ok y) is = refl
      from (Err refusal) is = cc

  -- a forget that is refused
  pub forget_refused : (fault : ForgetFault) → ForgetAnswers v loaded tables old (forget c r) (Err fault) → StepAnswers v loaded tables old (forget c r) (Err NoInstance)
  forget_refused fault answers given steps stands _ = nowhere c r (execution_in stands.books) (is_there (wiring_of v) c r) fault (answers given steps stands)

-- it leaves the net as it was
pub forget_leaves : (v : View) (loaded : List (Option Program)) (tables next : List Sets) (old new : Books) (c r : ℕ) (fault : ForgetFault)
    → ForgetLeaves v loaded tables next old new (forget c r) (Err fault) → StepLeaves v loaded tables next old new (forget c r) (Err NoInstance)
forget_leaves v loaded tables next old new c r fault same given steps stands =
    subst (λ (b : Books). Stands v given steps loaded next b) (sym same.1) (subst (λ (t : List Sets). Stands v given steps loaded t old) (sym same.0) stands)

-- ---- a net

-- it runs, seen by an equal topology and equal programs
pub runs_on : (v w : View) (given : Data) (steps : List Step) (loaded also : List (Option Program)) (tables : List Sets) (b : Books) → w ≡ v → also ≡ loaded → Stands v given steps loaded tables b → Runs w also tables b
runs_on v w given steps loaded also tables b same programs stands = record {
  given = given;
  steps = steps;
  stands = subst (λ (u : View). Stands u given steps also tables b) (sym same) (subst (λ (l : List (Option Program)). Stands v given steps l tables b) (sym programs) stands);
}

-- it stands for its steps before any line is applied
pub none_applied : (v : View) (given : Data) (steps : List Step) (loaded : List (Option Program)) (tables : List Sets) (b : Books) (stands : Stands v given steps loaded tables b)
    → Reaches v given (steps ++ []) loaded tables b (Ok (execution_in stands.books))
none_applied v given steps loaded tables b stands =
    subst (λ (all : List Step). Reaches v given all loaded tables b (Ok (execution_in stands.books))) (sym (append-nil steps)) (record { stands = stands; reached = refl })

-- ---- lines, each of which stands for a step

module _ {X : Type 0} (step : X → NamedStep) where
  -- the steps of one line more
  steps_more : (v : View) (steps : List Step) (lines : List (ℕ × X)) (i : ℕ) (line : ℕ × X) → i < length lines → line ≡ get_or lines i line
      → (steps ++ steps_in step v (take i lines)) ++ numbered_step v (step line.1) ∷ [] ≡ steps ++ steps_in step v (take (i + 1) lines)
  steps_more v steps lines i line within at =
      append_assoc steps (steps_in step v (take i lines)) (numbered_step v (step line.1) ∷ [])
      ∙ ap (λ (some : List Step). steps ++ some)
      (sym (ap (steps_in step v) (take_more lines i line within ∙ ap (λ (l : ℕ × X). take i lines ++ l ∷ []) (sym at))
      ∙ map-append (λ (l : ℕ × X). numbered_step v (step l.1)) (take i lines) (line ∷ [])))

  -- what it makes of an execution
  lines_more : (v : View) (given : Data) (lines : List (ℕ × X)) (i : ℕ) (line : ℕ × X) (x : Execution) → i < length lines → line ≡ get_or lines i line
      → after_lines step v given (take (i + 1) lines) x ≡ result_and_then (after_lines step v given (take i lines) x) (after_line step v given line)
  lines_more v given lines i line x within at =
      ap (λ (some : List (ℕ × X)). after_lines step v given some x) (take_more lines i line within ∙ ap (λ (l : ℕ × X). take i lines ++ l ∷ []) (sym at))
      ∙ fold-append (λ result (l : ℕ × X). result_and_then result (after_line step v given l)) (Ok x) (take i lines) (line ∷ [])

  -- where some line is refused, all lines are
  refused_on : (v : View) (given : Data) (later : List (ℕ × X)) (refusal : StepRefusal) → fold (λ result (l : ℕ × X). result_and_then result (after_line step v given l)) (Err refusal) later ≡ Err refusal
  refused_on v given [] refusal = refl
  refused_on v given (l ∷ later) refusal = refused_on v given later refusal

  -- a line that is refused among others
  all_refused : (v : View) (given : Data) (lines : List (ℕ × X)) (i : ℕ) (line : ℕ × X) (x : Execution) (refusal : StepRefusal) → i < length lines → line ≡ get_or lines i line
      → result_and_then (after_lines step v given (take i lines) x) (after_line step v given line) ≡ Err refusal → after_lines step v given lines x ≡ Err refusal
  all_refused v given lines i line x refusal within at refused =
      let whole : lines ≡ take (i + 1) lines ++ drop (i + 1) lines = sym (take-append-drop (i + 1) lines) in
      ap (λ (some : List (ℕ × X)). after_lines step v given some x) whole
      ∙ fold-append (λ result (l : ℕ × X). result_and_then result (after_line step v given l)) (Ok x) (take (i + 1) lines) (drop (i + 1) lines)
      ∙ ap (λ (a : Result Execution StepRefusal). fold (λ result (l : ℕ × X). result_and_then result (after_line step v given l)) a (drop (i + 1) lines)) (lines_more v given lines i line x within at ∙ refused)
      ∙ refused_on v given (drop (i + 1) lines) refusal

  module _ (v : View) (given : Data) (steps : List Step) (loaded : List (Option Program)) (tables next : List Sets) (old new : Books) (after : Result Execution StepRefusal) (line : ℕ × X) where
    -- a step that is done is one more
    reaches_more : (r : Reaches v given steps loaded tables old after)
        → Answers (after_step (wiring_of v) given (numbered_step v (step line.1)) (execution_in r.stands.books)) (limit_of_step (wiring_of v) given (numbered_step v (step line.1)) (execution_in r.stands.books)) (Ok tt)
        → Stands v given (steps ++ numbered_step v (step line.1) ∷ []) loaded next new
        → Reaches v given (steps ++ numbered_step v (step line.1) ∷ []) loaded next new (result_and_then after (after_line step v given line))
    reaches_more r answers stands =
        let x = execution_in r.stands.books in
        let taken = numbered_step v (step line.1) in
        let made = done_made (after_step (wiring_of v) given taken x) (limit_of_step (wiring_of v) given taken x) answers in
        let same : made.0 ≡ execution_in stands.books =
        Ok_same (execution_of (wiring_of v) given (steps ++ taken ∷ [])) made.0 (execution_in stands.books)
        (legal_more (wiring_of v) given steps taken x made.0 r.stands.books.stands.run made.1) stands.books.stands.run in
        record {
          stands = stands;
          reached = ap (λ (a : Result Execution StepRefusal). result_and_then a (after_line step v given line)) r.reached
              ∙ ap (in_line line.0) made.2
              ∙ ap (λ (y : Execution). Ok y) same;
        }

    -- a step that is refused is so in its line
    line_refused : (r : Reaches v given steps loaded tables old after) (fault : EventFault)
        → Answers (after_step (wiring_of v) given (numbered_step v (step line.1)) (execution_in r.stands.books)) (limit_of_step (wiring_of v) given (numbered_step v (step line.1)) (execution_in r.stands.books)) (Err fault)
        → fault ≢ NoMemory → result_and_then after (after_line step v given line) ≡ Err (record { line = line.0; fault = fault })
    line_refused r fault answers other =
        let x = execution_in r.stands.books in
        let taken = numbered_step v (step line.1) in
        ap (λ (a : Result Execution StepRefusal). result_and_then a (after_line step v given line)) r.reached
        ∙ ap (in_line line.0) (fault_made (after_step (wiring_of v) given taken x) (limit_of_step (wiring_of v) given taken x) fault answers other)

  -- all lines were applied
  pub all_applied : (v : View) (given : Data) (steps : List Step) (loaded : List (Option Program)) (tables : List Sets) (b : Books) (lines : List (ℕ × X)) (i : ℕ) (x : Execution) → length lines ≤ i
      → Reaches v given (steps ++ steps_in step v (take i lines)) loaded tables b (after_lines step v given (take i lines) x) → Reaches v given (steps ++ steps_in step v lines) loaded tables b (after_lines step v given lines x)
  all_applied v given steps loaded tables b lines i x past =
      subst (λ (all : List (ℕ × X)). Reaches v given (steps ++ steps_in step v all) loaded tables b (after_lines step v given all x)) (take_all i lines past)

  module _ (v w : View) (loaded also : List (Option Program)) (tables next : List Sets) (old new : Books) (lines : List (ℕ × X)) (i : ℕ) (line : ℕ × X) (result : Result (Unit {0}) EventFault)
      (same : w ≡ v) (programs : also ≡ loaded) (within : i < length lines) (at : line ≡ get_or lines i line)
      (taken : NamedStep) (lent : taken ≡ step line.1) (answers : StepAnswers w also tables old (numbered_step w taken) result) (leaves : StepLeaves w also tables next old new (numbered_step w taken) result) where
    own_answers : (r : Result (Unit {0}) EventFault) → result ≡ r → StepAnswers v loaded tables old (numbered_step v (step line.1)) r
    own_answers r is =
        subst (λ (q : Result (Unit {0}) EventFault). StepAnswers v loaded tables old (numbered_step v (step line.1)) q) is
        (subst (λ (s : NamedStep). StepAnswers v loaded tables old (numbered_step v s) result) lent
        (subst (λ (l : List (Option Program)). StepAnswers v l tables old (numbered_step v taken) result) programs
        (subst (λ (u : View). StepAnswers u also tables old (numbered_step u taken) result) same answers)))

    own_leaves : (r : Result (Unit {0}) EventFault) → result ≡ r → StepLeaves v loaded tables next old new (numbered_step v (step line.1)) r
    own_leaves r is =
        subst (λ (q : Result (Unit {0}) EventFault). StepLeaves v loaded tables next old new (numbered_step v (step line.1)) q) is
        (subst (λ (s : NamedStep). StepLeaves v loaded tables next old new (numbered_step v s) result) lent
        (subst (λ (l : List (Option Program)). StepLeaves v l tables next old new (numbered_step v taken) result) programs
        (subst (λ (u : View). StepLeaves u also tables next old new (numbered_step u taken) result) same leaves)))

    module _ (given : Data) (steps : List Step) (x : Execution) (r : Reaches v given (steps ++ steps_in step v (take i lines)) loaded tables old (after_lines step v given (take i lines) x)) where
      -- one line more
      pub line_applied : result ≡ Ok tt → Reaches v given (steps ++ steps_in step v (take (i + 1) lines)) loaded next new (after_lines step v given (take (i + 1) lines) x)
      line_applied is =
          let before : List Step = steps ++ steps_in step v (take i lines) in
          let after = after_lines step v given (take i lines) x in
          let more = reaches_more v given before loaded tables next old new after line r (own_answers (Ok tt) is given before r.stands) (own_leaves (Ok tt) is given before r.stands) in
          subst (λ (all : List Step). Reaches v given all loaded next new (after_lines step v given (take (i + 1) lines) x)) (steps_more v steps lines i line within at)
          (subst (λ (o : Result Execution StepRefusal). Reaches v given (before ++ numbered_step v (step line.1) ∷ []) loaded next new o) (sym (lines_more v given lines i line x within at)) more)

      -- a line whose step is refused
      pub line_stops : (fault : EventFault) → result ≡ Err fault → Applied step v given steps loaded next new lines (after_lines step v given lines x) (Err (record { line = line.0; fault = fault }))
      line_stops fault is =
          let before : List Step = steps ++ steps_in step v (take i lines) in
          let after = after_lines step v given (take i lines) x in (
            λ other. all_refused v given lines i line x (record { line = line.0; fault = fault }) within at (line_refused v given before loaded tables next old new after line r fault (own_answers (Err fault) is given before r.stands) other),
            record {
              count = i;
              refused = line.1;
              line = slice_get_read lines (length lines) i line refl within at;
              leaves = own_leaves (Err fault) is given before r.stands;
            },
          )
