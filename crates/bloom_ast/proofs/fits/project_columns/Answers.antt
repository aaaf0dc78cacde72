use Rattle.std.proofs.Common.{◌∙◌, refl}
use Rattle.bloom_ast.proofs.fits.project_columns.Goals as goal

pub returns : goal.returns
returns c = c.kept.ensures ∙ rw (c.in-Some.is, c.in_ok-names.ensures, c.items_fit-fit.ensures, c.deref.ensures.value) refl
