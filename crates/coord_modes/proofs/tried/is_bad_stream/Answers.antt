-- The component and the output from which a stream comes are there.
use Rattle.std.proofs.Common.{sym}
use Rattle.topo_forms.proofs.Views.InRange.{origin_within}
use Rattle.label_walk.proofs.Ranges.{output_within}
use Rattle.coord_modes.proofs.tried.is_bad_stream.Goals as goal

pub is_bad_output-requires-clause-component : goal.is_bad_output-requires-clause-component
is_bad_output-requires-clause-component c = origin_within c.args.valid.now.view c.known.ensures c.args.stream c.in-Some.other c.in-Some.output c.requires.stream (sym c.in-Some.ensures)

pub is_bad_output-requires-clause-output : goal.is_bad_output-requires-clause-output
is_bad_output-requires-clause-output c = output_within c.args.valid.now.view c.known.ensures c.args.stream c.in-Some.other c.in-Some.output c.requires.stream (sym c.in-Some.ensures)
