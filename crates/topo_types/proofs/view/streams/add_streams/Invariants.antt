use Rattle.std.proofs.Common.{◌≡◌, ◌++◌, map, take}
use Rattle.topo_forms.specs.ViewOf.{stream_view}
use Rattle.topo_forms.specs.Kept.{stream_kept}
use Rattle.topo_types.specs.Code.Built.{sites_seen}
use Rattle.topo_types.proofs.view.streams.add_streams.Given as goal

abbrev pub invariant-loop-entry : goal.invariant-loop-entry
invariant-loop-entry l = map stream_kept l.streams.items ≡ map stream_kept l.fn.streams.items ++ map (stream_view l.names (sites_seen l.sites)) (take l.entry-index l.entries)
