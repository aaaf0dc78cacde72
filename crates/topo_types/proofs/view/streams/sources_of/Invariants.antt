use Rattle.std.proofs.Common.{◌≡◌, map, take}
use Rattle.topo_forms.specs.ViewOf.{source_view}
use Rattle.topo_forms.specs.Kept.{stream_kept}
use Rattle.topo_types.specs.Code.Built.{sites_seen}
use Rattle.topo_types.proofs.view.streams.sources_of.Given as goal

abbrev pub invariant-loop-source : goal.invariant-loop-source
invariant-loop-source l = map stream_kept l.streams.items ≡ map (source_view l.names (sites_seen l.sites)) (take l.source-index l.sources)
