use Rattle.confluence.proofs.Regions.ValidatedLaw as proved
use Rattle.confluence.proofs.laws.validated_law.Goals as goal

pub returns-clause-sound : goal.returns-clause-sound
returns-clause-sound c = proved.sound_labels

pub returns-clause-restarts : goal.returns-clause-restarts
returns-clause-restarts c = proved.restart_labels
