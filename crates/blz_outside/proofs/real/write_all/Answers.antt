use Rattle.std.proofs.Common.{rules}
use Rattle.std.proofs.Math.Seq.{take-add}
use Rattle.std.proofs.lemmas.List.{take_rest}
use Rattle.std.proofs.KnownBytes.{Appends-trans}
use Rattle.blz_outside.proofs.real.write_all.Goals as goal

pub loop-taken-preserved : goal.loop-taken-preserved
loop-taken-preserved g c =
    let bytes = simp take_rest at c.in-Ok.ensures.bytes in
    record {
      appended = rw take-add (Appends-trans _ _ _ _ _ c.loop-taken.invariant.appended bytes);
      within = search rules;
    }
