use Rattle.std.proofs.Common.{refl}
use Rattle.topo_graph.proofs.Remoding.{remade}
use Rattle.topo_graph.proofs.modes.components_with_mode.Goals as goal

pub returns : goal.returns
returns c = remade c.args.components.items c.args.components.items c.args.number c.index_mut.result.now c.args.mode refl c.index_mut.ensures.value
