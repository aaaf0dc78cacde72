-- A line by which an instance forgets has exactly a component and a replica behind its first field.
use Rattle.std.proofs.Common.{◌≡◌, refl, codes}
use Rattle.sched_text.specs.Reading.{stands_for, bad}
use Rattle.sched_text.specs.declared.event.Event.TheVariants.{Take}
use Rattle.sched_net.specs.StepReading.{step_reading}
use Rattle.sched_net.specs.declared.step.Step.TheVariants.{Event, Forget}

forget_line : step_reading (codes " forget\tcache  0 ") ≡ stands_for (Forget (codes "cache") 0)
forget_line = refl

event_line : step_reading (codes "take num 2") ≡ stands_for (Event (Take (codes "num") 2))
event_line = refl

without_replica : step_reading (codes "forget cache") ≡ bad
without_replica = refl

with_another_field : step_reading (codes "forget cache 0 0") ≡ bad
with_another_field = refl

large_replica : step_reading (codes "forget cache 4294967296") ≡ bad
large_replica = refl
