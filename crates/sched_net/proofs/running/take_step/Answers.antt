use Rattle.sched_net.specs.Numbered.{component_number}
use Rattle.sched_net.proofs.StepsLemmas.{forget_done, forget_refused, forget_leaves}
use Rattle.sched_net.proofs.running.take_step.Goals as goal

pub returns-in-Event-clause-answer : goal.returns-in-Event-clause-answer
returns-in-Event-clause-answer g c = rw c.in-Event.is c.event.ensures.answer

pub returns-in-Event-clause-leaves : goal.returns-in-Event-clause-leaves
returns-in-Event-clause-leaves g c = rw c.in-Event.is c.event.ensures.leaves

pub returns-in-Ok-clause-answer : goal.returns-in-Ok-clause-answer
returns-in-Ok-clause-answer g c =
    let v = c.args.net.now.valid.now.view in
    rw c.in-Forget.is (forget_done v _ _ _ (component_number v c.in-Forget.component.now) c.in-Forget.replica c.in-Ok.ensures.answer)

pub returns-in-Ok-clause-leaves : goal.returns-in-Ok-clause-leaves
returns-in-Ok-clause-leaves g c = rw c.in-Forget.is c.in-Ok.ensures.leaves

pub returns-in-Err-NoInstance-clause-answer : goal.returns-in-Err-NoInstance-clause-answer
returns-in-Err-NoInstance-clause-answer g c =
    let v = c.args.net.now.valid.now.view in
    rw c.in-Forget.is (forget_refused v _ _ _ (component_number v c.in-Forget.component.now) c.in-Forget.replica c.in-Err-NoInstance.field-0 c.in-Err-NoInstance.ensures.answer)

pub returns-in-Err-NoInstance-clause-leaves : goal.returns-in-Err-NoInstance-clause-leaves
returns-in-Err-NoInstance-clause-leaves g c =
    let v = c.args.net.now.valid.now.view in
    forget_leaves v _ _ _ _ _ (component_number v c.in-Forget.component.now) c.in-Forget.replica c.in-Err-NoInstance.field-0 c.in-Err-NoInstance.ensures.leaves
