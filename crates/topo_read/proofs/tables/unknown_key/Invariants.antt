use Rattle.std.proofs.Common.{◌≡◌, map}
use Rattle.toml.specs.View.{table_view}
use Rattle.topo_read.specs.Tables.{unknown_key}
use Rattle.topo_read.proofs.Keys.{first_unknown}
use Rattle.topo_read.proofs.tables.unknown_key.Given as goal

-- the first unknown key of what is left is that of all
abbrev pub invariant-loop-key : goal.invariant-loop-key
invariant-loop-key l = first_unknown (map (λ key. key.now) l.known) l.key-iterator ≡ unknown_key (map (λ key. key.now) l.known) (table_view l.table)
