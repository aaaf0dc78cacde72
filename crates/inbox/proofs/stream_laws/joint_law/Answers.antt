use Rattle.inbox.proofs.Dependencies.JointLaw as joint
use Rattle.inbox.proofs.Dependencies.KeyedOutputs as keyed
use Rattle.inbox.proofs.stream_laws.joint_law.Goals as goal

pub returns-clause-whole : goal.returns-clause-whole
returns-clause-whole c = joint.whole_law

pub returns-clause-closure : goal.returns-clause-closure
returns-clause-closure c = joint.closure_law

pub returns-clause-joint : goal.returns-clause-joint
returns-clause-joint c = joint.joint_law

pub returns-clause-keyed : goal.returns-clause-keyed
returns-clause-keyed c = joint.keyed_law

pub returns-clause-outputs : goal.returns-clause-outputs
returns-clause-outputs c = keyed.output_keyed_law
