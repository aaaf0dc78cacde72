use Rattle.std.proofs.Common.{◌≡◌, ◌+◌, drop, map}
use Rattle.toml.specs.View.{table_view}
use Rattle.topo_read.specs.Topology.{entries_from}
use Rattle.topo_read.proofs.Front.{with_entries}
use Rattle.topo_read.proofs.reading.entries.Given as goal

-- the entries so far, and those of the rest, are those of all
abbrev pub invariant-loop-place : goal.invariant-loop-place
invariant-loop-place g l =
    let reading = g.T.FromTable.reading l.format in
    with_entries l.entries.items (entries_from reading l.list (l.place + 1) (map (λ table. table_view table.now) (drop l.place l.tables)))
    ≡ entries_from reading l.list 1 (map (λ table. table_view table.now) l.tables)
