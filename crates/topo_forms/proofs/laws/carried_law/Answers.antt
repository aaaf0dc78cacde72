use Rattle.topo_forms.proofs.Found.OneLevel.{upholds_law, carries_law}
use Rattle.topo_forms.proofs.Found.Once.{upholds_once, carries_once}
use Rattle.topo_forms.proofs.laws.carried_law.Goals as goal

pub returns-clause-upholds : goal.returns-clause-upholds
returns-clause-upholds c = upholds_law

pub returns-clause-carries : goal.returns-clause-carries
returns-clause-carries c = carries_law

pub returns-clause-upholds_once : goal.returns-clause-upholds_once
returns-clause-upholds_once c = upholds_once

pub returns-clause-carries_once : goal.returns-clause-carries_once
returns-clause-carries_once c = carries_once
