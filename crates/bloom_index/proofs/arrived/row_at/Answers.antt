use Rattle.std.proofs.Common.{◌∙◌, eq-eqb}
use Rattle.std.proofs.lemmas.Bool.{ne_eqb}
use Rattle.bloom_index.proofs.Arriving.{arrives_here, arrives_elsewhere}
use Rattle.bloom_index.proofs.arrived.row_at.Goals as goal

pub returns-then-at-port : goal.returns-then-at-port
returns-then-at-port c = arrives_here c.args.ports c.args.at c.args.row.now c.args.port c.requires (eq-eqb c.args.at c.args.port c.if-at-port.true)

pub returns : goal.returns
returns c = c.new.ensures ∙ arrives_elsewhere c.args.ports c.args.at c.args.row.now c.args.port c.requires (ne_eqb c.args.at c.args.port c.if-at-port.false)
