use Rattle.confluence.proofs.Regions.Induction as induction
use Rattle.confluence.proofs.Regions.RegionLaw as proved
use Rattle.confluence.proofs.laws.restart_law.Goals as goal

pub returns-clause-acyclic : goal.returns-clause-acyclic
returns-clause-acyclic c = proved.restart_law

pub returns-clause-strong : goal.returns-clause-strong
returns-clause-strong c = induction.strong_law
