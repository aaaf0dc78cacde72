use Rattle.std.proofs.Common.{◌≡◌, ◌∙◌, ◌∷◌, [], ◌&&◌, refl, rules}
use Rattle.std.proofs.lemmas.List.{map-append}
use Rattle.bloom_forms.specs.Borrowed.{names_in}
use Rattle.bloom_forms.specs.Fits.{keys_fit, aggregate_fits}
use Rattle.bloom_ast.proofs.fits.group_columns.Goals as goal

pub returns : goal.returns
returns c =
    let fit : c.if-keys_fit.fit ≡ (keys_fit (names_in c.in-Some.columns.items) c.args.keys.now && aggregate_fits (names_in c.in-Some.columns.items) c.args.agg.now) = search rules in
    c.kept.ensures ∙ rw (c.in-Some.is, c.in_ok-push.ensures.items, map-append (λ name. name.now) c.in_ok-names.names.items (c.args.name ∷ []), c.in_ok-names.ensures, fit) refl
