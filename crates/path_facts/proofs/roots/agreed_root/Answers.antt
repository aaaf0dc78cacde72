use Rattle.std.proofs.Common.{◌<◌, ◌∙◌, Bool, None, length, if◌then◌else◌, ap, sym, rules}
use Rattle.std.specs.List.{list_all}
use Rattle.bloom_forms.specs.Roots.{Roots, root_at, are_same}
use Rattle.path_facts.proofs.RootsLemmas.{agreed_by}
use Rattle.path_facts.proofs.roots.agreed_root.Goals as goal

pub returns-then-all_give : goal.returns-then-all_give
returns-then-all_give c =
    let given = c.args.given.now in
    let first = c.index-given-0.result in
    let number = c.args.number in
    let filled : 0 < length given = search rules in
    let told = c.all_give.ensures ∙ ap (λ (f : Roots). list_all (λ (other : Roots). are_same (root_at f number) (root_at other number)) given) c.as_slice-first.ensures in
    c.root_at.ensures ∙ ap (λ (f : Roots). root_at f number) c.as_slice-first.ensures ∙ ap (λ (b : Bool). if b then root_at first number else None) (sym c.if-all_give.true ∙ told) ∙ sym (agreed_by given first number filled c.index-given-0.is)

pub returns-else-all_give : goal.returns-else-all_give
returns-else-all_give c =
    let given = c.args.given.now in
    let first = c.index-given-0.result in
    let number = c.args.number in
    let filled : 0 < length given = search rules in
    let told = c.all_give.ensures ∙ ap (λ (f : Roots). list_all (λ (other : Roots). are_same (root_at f number) (root_at other number)) given) c.as_slice-first.ensures in
    ap (λ (b : Bool). if b then root_at first number else None) (sym c.if-all_give.false ∙ told) ∙ sym (agreed_by given first number filled c.index-given-0.is)
