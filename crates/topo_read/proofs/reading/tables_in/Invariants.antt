use Rattle.std.proofs.Common.{◌≡◌, drop, map}
use Rattle.toml.specs.Data.{as_table}
use Rattle.toml.specs.View.{items_view, table_view}
use Rattle.topo_read.specs.Values.{all_in}
use Rattle.topo_read.proofs.Front.{with_front}
use Rattle.topo_read.proofs.reading.tables_in.Given as goal

-- the tables so far, and those of the rest, are all
abbrev pub invariant-loop-value : goal.invariant-loop-value
invariant-loop-value l = with_front (map (λ table. table_view table.now) l.tables.items) (all_in as_table (items_view (drop l.value-index l.values))) ≡ all_in as_table (items_view l.values)
