use Rattle.std.proofs.Common.{◌≡◌, List, subst, IfOk}
use Rattle.bloom_forms.specs.Query.{Name}
use Rattle.topo_graph.proofs.Remoding.{key_names}
use Rattle.topo_graph.proofs.modes.names_in.Goals as goal

pub returns : goal.returns
returns c = subst (λ (names : List Name). IfOk c.names_with.result (λ some. some.items ≡ names)) (key_names c.args.set c.args.names.now c.requires.few c.requires.within) c.names_with.ensures
