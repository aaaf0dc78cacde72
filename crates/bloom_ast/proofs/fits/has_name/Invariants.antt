use Rattle.std.proofs.Common.{◌≡◌, drop}
use Rattle.bloom_forms.specs.Borrowed.{names_in}
use Rattle.bloom_forms.specs.Fits.{has_name}
use Rattle.bloom_ast.proofs.fits.has_name.Given as goal

abbrev pub invariant-loop-held : goal.invariant-loop-held
invariant-loop-held l = has_name (names_in (drop l.held-index l.names)) l.name ≡ has_name (names_in l.names) l.name
