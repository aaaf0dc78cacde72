use Rattle.std.proofs.Common.{◌≡◌, List, subst, IfOk}
use Rattle.bloom_forms.specs.Query.{Name}
use Rattle.topo_types.proofs.Columns.BodyColumns.{without}
use Rattle.topo_types.proofs.view.bodies.columns_without.Goals as goal

pub returns : goal.returns
returns c = subst (λ (names : List Name). IfOk c.columns_apart.result (λ copies. copies.items ≡ names)) (without c.args.number c.args.columns.now) c.columns_apart.ensures
