use Rattle.std.proofs.Common.{◌≡◌, drop}
use Rattle.bloom_forms.specs.Borrowed.{names_in}
use Rattle.bloom_forms.specs.Fits as spec
use Rattle.bloom_ast.proofs.fits.repeats.Given as goal

abbrev pub invariant-loop-i : goal.invariant-loop-i
invariant-loop-i l = spec.repeats (names_in (drop l.i l.names)) ≡ spec.repeats (names_in l.names)
