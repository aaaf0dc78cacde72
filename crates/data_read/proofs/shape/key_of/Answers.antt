use Rattle.std.proofs.Common.{arith, ◌∙◌}
use Rattle.topo_forms.proofs.KeyOfSource.{source_stream, carried_of_source}
use Rattle.data_read.proofs.shape.key_of.Goals as goal

pub carries-requires : goal.carries-requires
carries-requires c = omega (arith, c.requires, source_stream c.args.valid.now.view)

pub returns : goal.returns
returns c = c.carries.ensures ∙ carried_of_source c.args.valid.now.view c.known.ensures c.args.source c.requires
