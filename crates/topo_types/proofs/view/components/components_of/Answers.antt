use Rattle.std.proofs.Common.{length, rules}
use Rattle.std.proofs.lemmas.Iterator.Adapters.{YieldsList-from_vec}
use Rattle.std.proofs.lemmas.Iterator.Consumers.{YieldsList-turn}
use Rattle.topo_types.proofs.Faults.BuiltSites.{built_item}
use Rattle.topo_types.proofs.view.components.components_of.Goals as goal

pub component_of-requires : goal.component_of-requires
component_of-requires c =
    let turn = YieldsList-turn (YieldsList-from_vec {s = c.into_iter-site-iterator.result} c.args.sites.items (search rules) (search rules))
    c.loop-site.yielded c.loop-site.site-iterator c.loop-site.yielded_by c.next.result c.next.new.self c.in-Some.site c.in-Some.is c.next.ensures.steps in
    built_item c.args.sites.items (length c.loop-site.yielded) c.in-Some.site c.requires turn.0 turn.1
