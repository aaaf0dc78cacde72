use Rattle.std.proofs.Common.{◌∙◌, refl}
use Rattle.bloom_ast.proofs.fits.not_in_columns.Goals as goal

pub returns : goal.returns
returns c = c.kept.ensures ∙ rw (c.in-Some-Some.is-0, c.in-Some-Some.is-1, c.in_ok-fit.ensures, c.deref.ensures.value, c.deref-2.ensures.value) refl
