-- Sources are streams.
use Rattle.std.proofs.Common.{◌<◌, arith}
use Rattle.topo_forms.specs.View.{source_count}
use Rattle.report_lines.proofs.Streams.{source_within}
use Rattle.report_lines.proofs.derivation.push_sources.Goals as goal

pub push_source-requires : goal.push_source-requires
push_source-requires c =
    let below : c.loop-stream.stream < source_count c.args.report.now.valid.now.view = omega arith in
    source_within c.args.report.now.valid.now.view c.loop-stream.stream below
