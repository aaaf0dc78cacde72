use Rattle.std.proofs.Common.{arith, ℕ, ◌++◌, take, length-append}
use Rattle.std.proofs.lemmas.List.{length-take}
use Rattle.std.proofs.KnownBytes.{Consumes-trans}
use Rattle.blz_outside.proofs.real.read_all.Goals as goal

-- what was taken is what is kept so far and what the last read gave
pub returns-in_err-extend_from_slice-in-Ok-clause-taken :
    goal.returns-in_err-extend_from_slice-in-Ok-clause-taken
returns-in_err-extend_from_slice-in-Ok-clause-taken g c = (
  c.loop-chunk.into.items ++ take c.in-Ok.count c.read.new.buf,
  omega (arith, length-append {A = ℕ}, length-take {A = ℕ}),
  Consumes-trans _ _ _ _ _ c.loop-chunk.invariant.taken c.in-Ok.ensures.bytes.0,
)
