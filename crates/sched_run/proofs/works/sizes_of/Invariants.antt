-- the sizes of the windows so far
use Rattle.std.proofs.Common.{◌≡◌, length, map, take}
use Rattle.sched_run.proofs.works.sizes_of.Given as goal

abbrev pub invariant-loop-window : goal.invariant-loop-window
invariant-loop-window l = l.sizes.items ≡ map (λ window. length window.places) (take l.window-index l.windows)
