-- What a command that knows no data has to write.
use Rattle.std.specs.Prelude.{◌≡◌, List, Ok}
use Rattle.topo_forms.specs.declared.topology.Topology.{Topology}
use Rattle.topo_forms.specs.Valid.{Validated}
use Rattle.topo_forms.specs.View.{View}
use Rattle.label_rules.specs.declared.label.Label.{Label}
use Rattle.label_walk.specs.Labels.{AreLabels}
use Rattle.confluence.specs.Sound.{Sound, RestartSound}
use Rattle.coord_synth.specs.Laws.{AreCoordinated}
use Rattle.coord_modes.specs.Plan as plan
use Rattle.shard_route.specs.declared.sharded.Sharded.{Sharded}
use Rattle.topo_read.specs.Reading.{IsReading}
use Rattle.command_checks.specs.Reply.{Answer}
use Rattle.command_checks.specs.Script.{Bytes}
use Rattle.command_checks.specs.declared.status.Status.TheVariants.{Done}
use Rattle.blazes_commands.specs.Labels.ShardText.{shard_text}

-- the answer is Done with a text of the labels that the rules give, and these hold in all complete executions, also in those with forgets
pub record HasLabels (text : View → List Label → Bytes) (v : View) (answer : Answer) : Type 0 where
  pub labels : List Label
  pub rules : AreLabels v labels
  pub sound : Sound v labels
  pub restarts : RestartSound v labels
  pub says : answer ≡ record { status = Done; text = text v labels }

-- the planned topology as a file has it, in format 2
abbrev pub planned_file : Validated → Topology
planned_file seen = record (plan.topology_with_modes seen.topology (plan.planned seen.view)) { format = 2 }

-- the answer is Done with a text that is read as the planned topology; there no stream is worse than Run, and each of a component in mode Pass or Seal is Seal or Async
pub record HasPlan (seen : Validated) (answer : Answer) : Type 0 where
  pub status : answer.status ≡ Done
  pub reads : IsReading answer.text (Ok (planned_file seen))
  pub coordinated : AreCoordinated (plan.planned seen.view)

-- the answer is Done with a text that is read as the new topology, and the texts of the modules of its copies
pub record HasShards (copies : Sharded) (answer : Answer) : Type 0 where
  pub text : Bytes
  pub reads : IsReading text (Ok copies.topology)
  pub says : answer ≡ record { status = Done; text = shard_text text copies.files }
