-- The component and the output from which a stream comes are there.
use Rattle.std.proofs.Common.{sym}
use Rattle.topo_forms.proofs.Views.InRange.{origin_within}
use Rattle.label_walk.proofs.Ranges.{output_within}
use Rattle.label_walk.proofs.region_walk.remade_label.Goals as goal

pub alone_label-requires-clause-component : goal.alone_label-requires-clause-component
alone_label-requires-clause-component c = origin_within c.args.valid.now.view c.known.ensures c.args.stream c.in-Some.component c.in-Some.output c.requires (sym c.in-Some.ensures)

pub alone_label-requires-clause-output : goal.alone_label-requires-clause-output
alone_label-requires-clause-output c = output_within c.args.valid.now.view c.known.ensures c.args.stream c.in-Some.component c.in-Some.output c.requires (sym c.in-Some.ensures)
