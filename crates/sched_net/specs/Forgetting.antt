-- What a net answers where an instance forgets, and what it leaves.
use Rattle.std.specs.Prelude.{◌≡◌, ◌++◌, ◌∷◌, [], Option, Result, Ok, Err, List}
use Rattle.bloom_forms.specs.declared.program.Program.{Program}
use Rattle.bloom_forms.specs.Step.{Sets}
use Rattle.topo_forms.specs.Data.{Data}
use Rattle.topo_forms.specs.View.{View}
use Rattle.inbox.specs.Wiring.{wiring_of}
use Rattle.inbox.specs.Executions.{Execution, after_step}
use Rattle.inbox.specs.Events.{Step, Refusal}
use Rattle.sched_net.specs.Net.{Stands, execution_in}
use Rattle.sched_net.specs.declared.books.Books.{Books}
use Rattle.sched_net.specs.declared.fault.ForgetFault.{ForgetFault}
use Rattle.sched_net.specs.declared.fault.ForgetFault.TheVariants as forget_fault

-- the answer to a forget
abbrev pub answer_to_forget : Result Execution Refusal → Result (Unit {0}) ForgetFault
answer_to_forget (Ok x) = Ok tt
answer_to_forget (Err refusal) = Err forget_fault.NoInstance

-- it is answered as the execution says, for whatever steps the net stood
abbrev pub ForgetAnswers : View → (loaded : List (Option Program)) → (tables : List Sets) → (old : Books) → Step → Result (Unit {0}) ForgetFault → Type 0
ForgetAnswers v loaded tables old step result = (given : Data) (steps : List Step) (stands : Stands v given steps loaded tables old)
    → result ≡ answer_to_forget (after_step (wiring_of v) given step (execution_in stands.books))

-- it is one step more, or nothing changes
abbrev pub ForgetLeaves : View → (loaded : List (Option Program)) → (tables next : List Sets) → (old new : Books) → Step → Result (Unit {0}) ForgetFault → Type 0
ForgetLeaves v loaded tables next old new step (Ok x) = (given : Data) (steps : List Step) → Stands v given steps loaded tables old → Stands v given (steps ++ step ∷ []) loaded next new
ForgetLeaves v loaded tables next old new step (Err fault) = (next ≡ tables) × (new ≡ old)
