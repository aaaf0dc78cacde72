use Rattle.topo_types.proofs.Faults.BuiltSites.{built_item}
use Rattle.topo_types.proofs.Faults.OfViewLemmas.{known_item}
use Rattle.topo_types.proofs.validity.of_view.first_understated.Goals as goal

pub is_understated-requires-clause-built : goal.is_understated-requires-clause-built
is_understated-requires-clause-built c = built_item c.args.sites.now c.loop-number.number c.index-sites-number.result c.requires.built c.loop-number-test.true c.index-sites-number.is

pub is_understated-requires-clause-known : goal.is_understated-requires-clause-known
is_understated-requires-clause-known c = known_item c.args.sites.now c.loop-number.number c.index-sites-number.result c.requires.known c.loop-number-test.true c.index-sites-number.is
