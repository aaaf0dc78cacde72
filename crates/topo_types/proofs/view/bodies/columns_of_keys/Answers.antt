use Rattle.std.proofs.Common.{◌≡◌, List, subst, IfOk}
use Rattle.bloom_forms.specs.Query.{Name}
use Rattle.topo_types.proofs.Columns.BodyColumns.{key_names}
use Rattle.topo_types.proofs.view.bodies.columns_of_keys.Goals as goal

pub returns : goal.returns
returns c = subst (λ (names : List Name). IfOk c.columns_at_keys.result (λ copies. copies ≡ names)) (key_names c.args.columns.now c.args.keys.now) c.columns_at_keys.ensures
