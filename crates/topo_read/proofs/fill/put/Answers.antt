-- What is inserted stands among the members.
use Rattle.std.proofs.Common.{◌≡◌, ℕ, List, ap, ◌∙◌}
use Rattle.toml.specs.View.{view, members_view, table_view}
use Rattle.topo_read.specs.Fill.{with_member}
use Rattle.topo_read.proofs.Inserted.{inserted}
use Rattle.topo_read.proofs.fill.put.Goals as goal

pub returns : goal.returns
returns c =
    ap members_view c.in_ok-insert.ensures.entries ∙ inserted c.in_ok-key.key c.args.value c.args.table.now.entries
    ∙ ap (λ (k : List ℕ). with_member k (view c.args.value) (table_view c.args.table.now)) c.in_ok-key.ensures.ok
