-- the members so far are Order where they have an O note
use Rattle.std.proofs.Common.{◌≡◌, fold, length, take}
use Rattle.coord_synth.specs.Code.Written.{StaysWritten}
use Rattle.coord_modes.specs.Plan.{order_member}
use Rattle.coord_synth.proofs.cycle.order_members.Given as goal

abbrev pub invariant-loop-member : goal.invariant-loop-member
invariant-loop-member l = record {
  view : l.now.view ≡ fold order_member l.initial.now.view (take l.member-index l.members);
  count : length l.now.view.components ≡ length l.initial.now.view.components;
  written : StaysWritten l.initial.now l.now;
}
