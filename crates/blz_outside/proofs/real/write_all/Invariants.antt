use Rattle.std.proofs.Common.{◌-◌, ◌≤◌, length, take}
use Rattle.std.specs.Io.KnownBytes.{Appends}
use Rattle.blz_outside.proofs.real.write_all.Given as goal

-- what was taken of the piece so far was appended
abbrev pub invariant-loop-taken : goal.invariant-loop-taken
invariant-loop-taken g l = record {
  appended : Appends (g.W.Write.contents l.initial.writer) (g.W.Write.contents l.writer)
      (take l.taken l.piece);
  within : l.taken ≤ length l.piece;
}

abbrev pub decreases-loop-taken : goal.decreases-loop-taken
decreases-loop-taken g l = length l.piece - l.taken
