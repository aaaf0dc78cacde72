-- all streams so far that come from the component are Seal or Async
use Rattle.std.proofs.Common.{◌≡◌, true, filter}
use Rattle.std.specs.List.{list_all}
use Rattle.blz_value.specs.NumberSets.{below}
use Rattle.topo_forms.specs.View.{comes_from, origin_of}
use Rattle.coord_modes.specs.Code.Tried.{is_fine_with}
use Rattle.coord_modes.proofs.tried.are_good_with.Given as goal

abbrev pub invariant-loop-stream : goal.invariant-loop-stream
invariant-loop-stream l = list_all (λ s. is_fine_with l.valid.view l.labels l.mode (origin_of l.valid.view s)) (filter (comes_from l.valid.view l.component) (below l.stream)) ≡ true
