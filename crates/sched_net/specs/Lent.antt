-- What is lent in place of a step.
use Rattle.sched_net.specs.declared.as_step.StepRef.{StepRef}
use Rattle.sched_net.specs.declared.as_step.StepRef.TheVariants as lent
use Rattle.sched_net.specs.declared.step.Step.{Step}
use Rattle.sched_net.specs.declared.step.Step.TheVariants as steps

-- the step
abbrev pub step_of : StepRef → Step
step_of (lent.Event event) = steps.Event event.now
step_of (lent.Forget component replica) = steps.Forget component.now replica
