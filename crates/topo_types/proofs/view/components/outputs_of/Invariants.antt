use Rattle.std.proofs.Common.{◌≡◌, ◌++◌, map, drop}
use Rattle.std.specs.List.{enumerate_from}
use Rattle.topo_forms.specs.ViewOf.{output_view}
use Rattle.topo_forms.specs.Kept.{output_kept}
use Rattle.topo_types.proofs.view.components.outputs_of.Given as goal

abbrev pub invariant-loop-number : goal.invariant-loop-number
invariant-loop-number l = map output_kept l.kept.items ++ map (output_view l.names l.site.program) (enumerate_from l.number (drop l.number l.site.outputs)) ≡ map (output_view l.names l.site.program) (enumerate_from 0 l.site.outputs)
