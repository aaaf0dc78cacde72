use Rattle.std.proofs.Common.{◌∙◌, ◌++◌, ◌∷◌, [], None, append_assoc, ap, sym}
use Rattle.std.specs.List.{remove}
use Rattle.blz_value.specs.Names.{place_of}
use Rattle.bloom_forms.specs.Roots.{Roots}
use Rattle.path_facts.proofs.RootsLemmas.{map_remove}
use Rattle.path_annotate.proofs.stock.split_roots.Goals as goal

pub returns : goal.returns
returns c =
    let none : Roots = None ∷ [] in
    let kept = c.remove.ensures.items ∙ ap (λ (l : Roots). remove l c.args.split) c.in_ok-roots.ensures ∙ sym (map_remove (place_of c.args.names.now) c.args.columns.now c.args.split) in
    c.in_ok-push-2.ensures.items ∙ ap (λ (l : Roots). l ++ none) c.in_ok-push.ensures.items ∙ append_assoc c.remove.new.self.items none none ∙ ap (λ (l : Roots). l ++ None ∷ None ∷ []) kept
