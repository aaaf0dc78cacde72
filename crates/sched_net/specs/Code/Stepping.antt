-- What a net answers to a step, and what it leaves: as to an event, and a refused forget is NoInstance.
use Rattle.std.specs.Prelude.{Option, Result, List}
use Rattle.bloom_forms.specs.declared.program.Program.{Program}
use Rattle.bloom_forms.specs.Step.{Sets}
use Rattle.topo_forms.specs.Data.{Data}
use Rattle.topo_forms.specs.View.{View}
use Rattle.inbox.specs.Events.{Step}
use Rattle.inbox.specs.Executions.{after_step}
use Rattle.inbox.specs.Wiring.{wiring_of}
use Rattle.messages.specs.declared.fault.EventFault.{EventFault}
use Rattle.sched_net.specs.Answers.{Answers}
use Rattle.sched_net.specs.Net.{Stands, Leaves, execution_in}
use Rattle.sched_net.specs.declared.books.Books.{Books}
use Rattle.sched_net.specs.Steps.{limit_of_step}

-- it is answered as the execution says, for whatever steps the net stood
abbrev pub StepAnswers : View → (loaded : List (Option Program)) → (tables : List Sets) → (old : Books) → Step → Result (Unit {0}) EventFault → Type 0
StepAnswers v loaded tables old step result = (given : Data) (steps : List Step) (stands : Stands v given steps loaded tables old)
    → Answers (after_step (wiring_of v) given step (execution_in stands.books)) (limit_of_step (wiring_of v) given step (execution_in stands.books)) result

-- a step that is done is one more, a refused one changes nothing, and every other fault ends the net
abbrev pub StepLeaves : View → (loaded : List (Option Program)) → (tables next : List Sets) → (old new : Books) → Step → Result (Unit {0}) EventFault → Type 0
StepLeaves v loaded tables next old new step result = (given : Data) (steps : List Step) → Stands v given steps loaded tables old → Leaves v given steps loaded next new step result
