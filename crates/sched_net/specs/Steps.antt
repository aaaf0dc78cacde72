-- Steps are applied in order, up to the first that is refused, which is named by its line.
use Rattle.std.specs.Prelude.{◌≡◌, ◌≢◌, ◌++◌, ℕ, Option, None, Some, Result, Ok, Err, List, map, take, slice_get}
use Rattle.std.specs.List.{fold}
use Rattle.bloom_forms.specs.declared.program.Program.{Program}
use Rattle.bloom_forms.specs.Step.{Sets}
use Rattle.topo_forms.specs.Data.{Data}
use Rattle.topo_forms.specs.View.{View}
use Rattle.inbox.specs.Events.{Step, event, forget, Refusal}
use Rattle.inbox.specs.Executions.{Execution, result_and_then, after_step}
use Rattle.inbox.specs.Wiring.{Wiring, wiring_of}
use Rattle.messages.specs.declared.fault.EventFault.{EventFault}
use Rattle.messages.specs.declared.fault.EventFault.TheVariants.{NoMemory}
use Rattle.sched_net.specs.Answers.{fault_of, fault_at}
use Rattle.inbox.specs.Limits.{Limit, limit_of_event}
use Rattle.sched_net.specs.Net.{Stands, Leaves, execution_in}
use Rattle.sched_net.specs.Numbered.{component_number, numbered}
use Rattle.sched_net.specs.declared.books.Books.{Books}
use Rattle.sched_net.specs.declared.running.StepRefusal.{StepRefusal}
use Rattle.sched_net.specs.declared.step.Step.{Step as NamedStep}
use Rattle.sched_net.specs.declared.step.Step.TheVariants.{Event, Forget}

-- a line of a replay: its number and its step
abbrev pub StepLine : Type 0
StepLine = ℕ × NamedStep

-- ---- a step

-- a step by numbers
abbrev pub numbered_step : View → NamedStep → Step
numbered_step v (Event e) = event (numbered v e)
numbered_step v (Forget component replica) = forget (component_number v component) replica

-- the limit that a step meets; a forget meets none
abbrev pub limit_of_step : Wiring → Data → Step → Execution → Option Limit
limit_of_step w given (event e) x = limit_of_event w given e x
limit_of_step w given (forget component replica) x = None

-- what a legal step makes, unless it meets a limit
abbrev pub within : Option Limit → Execution → Result Execution EventFault
within None x = Ok x
within (Some limit) x = Err (fault_at limit)

-- what a step makes, or why it is refused
abbrev pub made_by : Result Execution Refusal → Option Limit → Result Execution EventFault
made_by (Ok x) limit = within limit x
made_by (Err refusal) limit = Err (fault_of refusal)

-- ---- what lines make of an execution, in each of which stands a step, or what it is the step of

-- a step stands for itself
abbrev pub itself : NamedStep → NamedStep
itself step = step

-- what is refused in a line is refused with its number
abbrev pub in_line : ℕ → Result Execution EventFault → Result Execution StepRefusal
in_line line (Ok x) = Ok x
in_line line (Err fault) = Err (record { line = line; fault = fault })

-- the execution after the step of a line
abbrev pub after_line : {X : Type 0} → (step : X → NamedStep) → View → Data → ℕ × X → Execution → Result Execution StepRefusal
after_line step v given line x =
    in_line line.0 (made_by (after_step (wiring_of v) given (numbered_step v (step line.1)) x) (limit_of_step (wiring_of v) given (numbered_step v (step line.1)) x))

-- the execution after the steps of some lines, or the first that is refused
abbrev pub after_lines : {X : Type 0} → (step : X → NamedStep) → View → Data → List (ℕ × X) → Execution → Result Execution StepRefusal
after_lines step v given lines x = fold (λ result line. result_and_then result (after_line step v given line)) (Ok x) lines

-- ---- what they make of a net

-- the steps of some lines, by numbers
abbrev pub steps_in : {X : Type 0} → (step : X → NamedStep) → View → List (ℕ × X) → List Step
steps_in step v lines = map (λ line. numbered_step v (step line.1)) lines

-- the net stands for these steps, and their execution is this
pub record Reaches (v : View) (given : Data) (steps : List Step) (loaded : List (Option Program)) (tables : List Sets) (b : Books) (after : Result Execution StepRefusal) : Type 0 where
  pub stands : Stands v given steps loaded tables b
  pub reached : after ≡ Ok (execution_in stands.books)

-- the lines before one were applied, and its step was refused and left the net so
pub record StopsAt {X : Type 0} (step : X → NamedStep) (v : View) (given : Data) (steps : List Step) (loaded : List (Option Program)) (tables : List Sets) (b : Books) (lines : List (ℕ × X)) (refusal : StepRefusal) : Type 0 where
  pub count : ℕ
  pub refused : X
  pub line : slice_get lines count ≡ Some (refusal.line, refused)
  pub leaves : Leaves v given (steps ++ steps_in step v (take count lines)) loaded tables b (numbered_step v (step refused)) (Err refusal.fault)

-- what lines that make this of an execution make of a net
abbrev pub Applied : {X : Type 0} → (step : X → NamedStep) → (v : View) (given : Data) (steps : List Step) (loaded : List (Option Program)) (tables : List Sets) (b : Books) (lines : List (ℕ × X)) (after : Result Execution StepRefusal)
    → Result (Unit {0}) StepRefusal → Type 0
Applied step v given steps loaded tables b lines after (Ok x) = Reaches v given (steps ++ steps_in step v lines) loaded tables b after
Applied step v given steps loaded tables b lines after (Err refusal) = (refusal.fault ≢ NoMemory → after ≡ Err refusal) × StopsAt step v given steps loaded tables b lines refusal

-- so it is for all steps for which the net stood
abbrev pub Applies : {X : Type 0} → (step : X → NamedStep) → View → (loaded : List (Option Program)) → (tables next : List Sets) → (old new : Books) → List (ℕ × X) → Result (Unit {0}) StepRefusal → Type 0
Applies step v loaded tables next old new lines result = (given : Data) (steps : List Step) (stands : Stands v given steps loaded tables old)
    → Applied step v given steps loaded next new lines (after_lines step v given lines (execution_in stands.books)) result
