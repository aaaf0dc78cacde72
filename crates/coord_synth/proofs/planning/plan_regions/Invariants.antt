-- the steps at the regions so far
use Rattle.std.proofs.Common.{◌≡◌, fold, length, take}
use Rattle.coord_synth.specs.Code.Shapes.{plan_at}
use Rattle.coord_synth.specs.Code.Written.{StaysWritten}
use Rattle.coord_synth.proofs.planning.plan_regions.Given as goal

abbrev pub invariant-loop-first : goal.invariant-loop-first
invariant-loop-first l = record {
  view : l.now.view ≡ fold (plan_at l.steps) l.initial.now.view (take l.first-index l.firsts);
  count : length l.now.view.components ≡ length l.initial.now.view.components;
  written : StaysWritten l.initial.now l.now;
}
