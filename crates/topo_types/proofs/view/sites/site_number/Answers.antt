use Rattle.topo_types.proofs.Lists.Positions.{site_place}
use Rattle.topo_types.proofs.view.sites.site_number.Goals as goal

pub returns-clause-number : goal.returns-clause-number
returns-clause-number c = cc (site_place c.args.sites.now c.args.name.now)
