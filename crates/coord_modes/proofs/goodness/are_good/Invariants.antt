-- all streams so far that come from the component are Seal or Async
use Rattle.std.proofs.Common.{◌≡◌, true, filter, not}
use Rattle.std.specs.List.{list_all}
use Rattle.blz_value.specs.NumberSets.{below}
use Rattle.topo_forms.specs.View.{comes_from}
use Rattle.label_walk.specs.Paths.{label_at}
use Rattle.coord_modes.specs.Plan.{is_bad}
use Rattle.coord_modes.proofs.goodness.are_good.Given as goal

abbrev pub invariant-loop-stream : goal.invariant-loop-stream
invariant-loop-stream l = list_all (λ s. not (is_bad (label_at l.labels s))) (filter (comes_from l.valid.view l.component) (below l.stream)) ≡ true
