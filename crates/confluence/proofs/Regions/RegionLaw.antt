-- The labels of valid topologies are sound, over complete executions with forgets or without.
use Rattle.std.proofs.Common.{List, map}
use Rattle.label_rules.specs.declared.label.Label.{Label}
use Rattle.topo_forms.specs.View.{View}
use Rattle.topo_forms.specs.Data.{Data}
use Rattle.inbox.specs.Wiring.{Wiring, wiring_of}
use Rattle.inbox.specs.Executions.{Execution}
use Rattle.inbox.specs.Events.{event}
use Rattle.confluence.specs.Complete.{IsCompleted, IsRun}
use Rattle.confluence.specs.Sound.{Sound, RestartSound}
use Rattle.confluence.specs.Laws.{RegionLaw, RestartLaw, StrongRestartLaw}
use Rattle.confluence.proofs.Regions.Induction.{strong_law}

-- a complete execution is a complete history without forgets
pub completed_run : (w : Wiring) (d : Data) (x : Execution) → IsRun w d x → IsCompleted w d x
completed_run w d x run = record { steps = map event run.events; legal = run.legal; complete = run.complete }

pub sound_of_restarts : (v : View) (labels : List Label) → RestartSound v labels → Sound v labels
sound_of_restarts v labels sound d s is_data holds within bodied =
    let all = sound d s is_data holds within bodied in
    record {
      schedules = λ steady x y a b. all.schedules steady x y (completed_run (wiring_of v) d x a) (completed_run (wiring_of v) d y b);
      one_step = λ steady x a. all.one_step steady x (completed_run (wiring_of v) d x a);
      replicas = λ is x a. all.replicas is x (completed_run (wiring_of v) d x a);
    }

pub region_of_restarts : StrongRestartLaw → RegionLaw
region_of_restarts law v labels valid are = sound_of_restarts v labels (law v labels valid are)

pub restarts_of_all : StrongRestartLaw → RestartLaw
restarts_of_all law v labels d s x y valid acyclic are is_data holds within bodied steady a b = (law v labels valid are d s is_data holds within bodied).schedules steady x y a b

pub region_law : RegionLaw
region_law = region_of_restarts strong_law

pub restart_law : RestartLaw
restart_law = restarts_of_all strong_law
