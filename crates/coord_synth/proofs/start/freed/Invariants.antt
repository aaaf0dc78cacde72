-- the components so far are Free where they aren't Order
use Rattle.std.proofs.Common.{◌≡◌}
use Rattle.coord_synth.proofs.StartLemmas.{freed_so_far}
use Rattle.coord_synth.proofs.start.freed.Given as goal

abbrev pub invariant-loop-component : goal.invariant-loop-component
invariant-loop-component l = l.now ≡ freed_so_far l.valid l.component
