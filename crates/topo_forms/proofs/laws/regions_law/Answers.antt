use Rattle.topo_forms.proofs.Regions.OrderAlone.{order_acyclic}
use Rattle.topo_forms.proofs.Regions.Numbering.{regions_law}
use Rattle.topo_forms.proofs.Regions.RegionOrder.{region_order}
use Rattle.topo_forms.proofs.laws.regions_law.Goals as goal

pub returns-clause-numbered : goal.returns-clause-numbered
returns-clause-numbered c = regions_law

pub returns-clause-order : goal.returns-clause-order
returns-clause-order c = region_order

pub returns-clause-unordered : goal.returns-clause-unordered
returns-clause-unordered c = order_acyclic
