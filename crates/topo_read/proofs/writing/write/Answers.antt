-- What is printed is read as the table, and the table as the topology.
use Rattle.std.proofs.Common.{◌≡◌, ◌≤◌, Some, ap, subst, sym, ◌∙◌}
use Rattle.toml.specs.Data.{Members, members_depth}
use Rattle.toml.specs.View.{table_view}
use Rattle.topo_read.specs.Document.{document_of}
use Rattle.topo_read.specs.Written.{table_of}
use Rattle.topo_read.proofs.ReadBack.{read_back}
use Rattle.topo_read.proofs.WrittenDepth.{written_depth}
use Rattle.topo_read.proofs.writing.write.Goals as goal

pub returns-clause-document : goal.returns-clause-document
returns-clause-document c =
    let few : members_depth (table_view c.in_ok-table.table) ≤ 80 = subst (λ (m : Members). members_depth m ≤ 80) (sym c.in_ok-table.ensures) (written_depth c.args.topology.now) in
    c.bytes_of.ensures ∙ c.in_ok-text.ensures few ∙ ap (λ (m : Members). Some m) c.in_ok-table.ensures

pub returns-clause-reading : goal.returns-clause-reading
returns-clause-reading c =
    let few : members_depth (table_view c.in_ok-table.table) ≤ 80 = subst (λ (m : Members). members_depth m ≤ 80) (sym c.in_ok-table.ensures) (written_depth c.args.topology.now) in
    (table_of c.args.topology.now, c.bytes_of.ensures ∙ c.in_ok-text.ensures few ∙ ap (λ (m : Members). Some m) c.in_ok-table.ensures, read_back c.args.topology.now c.requires.allowed c.requires.format)
