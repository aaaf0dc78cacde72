use Rattle.topo_forms.proofs.Views.GivenModules.{modules_law}
use Rattle.topo_forms.proofs.Views.ValidViews.{valid_law}
use Rattle.topo_forms.proofs.laws.valid_law.Goals as goal

pub returns-clause-valid : goal.returns-clause-valid
returns-clause-valid c = valid_law

pub returns-clause-modules : goal.returns-clause-modules
returns-clause-modules c = modules_law
