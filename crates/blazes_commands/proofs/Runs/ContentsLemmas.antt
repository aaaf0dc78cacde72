-- The status of an execution is told by a test, and replicas of Order components have what their program puts out over the log.
use Rattle.std.proofs.Common.{◌≡◌, ◌<◌, ◌∙◌, ◌↔◌, inl, inr, ℕ, Bool, true, false, IsTrue, refl}
use Rattle.sched_net.proofs.EmittedSeen.{is_order_output}
use Rattle.inbox.specs.Completeness.{IsComplete}
use Rattle.inbox.specs.Executions.{Execution}
use Rattle.inbox.specs.Wiring.{wiring_of}
use Rattle.inbox.proofs.Lists.SequencerLaw.{sequencer_law}
use Rattle.topo_forms.specs.Data.{Data}
use Rattle.topo_forms.specs.Valid.{IsValid}
use Rattle.topo_forms.specs.View.{View}
use Rattle.command_checks.specs.declared.status.Status.TheVariants.{Done, Incomplete}
use Rattle.blazes_commands.specs.Runs.Contents.{HasOrderReplicas, IsStatusOf}

-- ---- the status

-- the status of a run by a test that tells whether it is complete
pub complete_status : (v : View) (given : Data) (x : Execution) (test : Bool) → IsTrue test ↔ IsComplete (wiring_of v) given x → test ≡ true → IsStatusOf v given x Done
complete_status v given x test tells is = inl (refl, tells.0 is)

pub left_status : (v : View) (given : Data) (x : Execution) (test : Bool) → IsTrue test ↔ IsComplete (wiring_of v) given x → test ≡ false → IsStatusOf v given x Incomplete
left_status v given x test tells isnt = inr (refl, λ complete. let is : test ≡ true = tells.1 complete in cc)

-- ---- replicas of Order components

pub order_replicas : (v : View) (given : Data) (x : Execution) → IsValid v → HasOrderReplicas v given x
order_replicas v given x valid s r c o program is = sequencer_law (wiring_of v) given x s c o r program (is_order_output v s r c o program valid is)
