use Rattle.topo_types.proofs.Lists.Positions.{side_place}
use Rattle.topo_types.proofs.view.sites.side_number.Goals as goal

pub returns-clause-number : goal.returns-clause-number
returns-clause-number c = cc (side_place c.args.sides.now c.args.name.now)
