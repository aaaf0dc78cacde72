use Rattle.confluence.proofs.Regions.Induction as induction
use Rattle.confluence.proofs.Regions.RegionLaw as proved
use Rattle.confluence.proofs.laws.region_law.Goals as goal

pub returns-clause-sound : goal.returns-clause-sound
returns-clause-sound c = proved.region_law

pub returns-clause-unbodied : goal.returns-clause-unbodied
returns-clause-unbodied c = induction.open_region_law
