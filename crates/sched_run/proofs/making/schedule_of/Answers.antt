use Rattle.std.proofs.Common.{◌≡◌, subst, sym}
use Rattle.std.specs.Prelude.{IfOk}
use Rattle.topo_forms.specs.Valid.{Validated}
use Rattle.sched_net.specs.ScheduleLines.{events_of}
use Rattle.sched_run.specs.Naming.{CanBeWritten}
use Rattle.sched_run.proofs.making.schedule_of.Goals as goal

pub schedule-requires : goal.schedule-requires
schedule-requires g c = subst (λ (s : Validated). CanBeWritten s.view c.args.made.now) (sym c.valid.ensures) c.requires

pub returns-clause-events : goal.returns-clause-events
returns-clause-events g c = subst (λ (s : Validated). IfOk c.schedule.result (λ schedule. events_of s.view schedule ≡ c.args.made.now)) c.valid.ensures c.schedule.ensures.events
