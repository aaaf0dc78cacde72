use Rattle.coord_synth.proofs.PlannedModes.{sets_modes, keeps_order}
use Rattle.coord_synth.proofs.laws.plan_modes_law.Goals as goal

pub returns-clause-modes : goal.returns-clause-modes
returns-clause-modes c = sets_modes

pub returns-clause-orders : goal.returns-clause-orders
returns-clause-orders c = keeps_order
