use Rattle.std.proofs.Common.{◌≡◌, ◌∙◌, ◌&&◌, refl, pos, int_lt, rules}
use Rattle.bloom_forms.specs.Borrowed.{names_in}
use Rattle.bloom_forms.specs.Fits.{keys_fit}
use Rattle.bloom_ast.proofs.fits.at_least_columns.Goals as goal

pub returns : goal.returns
returns c =
    let fit : c.if-keys_fit.fit ≡ (keys_fit (names_in c.in-Some.columns.items) c.args.keys.now && int_lt (pos 0) c.args.bound) = search rules in
    c.kept.ensures ∙ rw (c.in-Some.is, c.in_ok-names.ensures, fit) refl
