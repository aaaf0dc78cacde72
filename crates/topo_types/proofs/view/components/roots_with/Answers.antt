use Rattle.std.proofs.Common.{◌≡◌, List, get_or, ap, subst, ◌∙◌}
use Rattle.std.specs.Prelude.{IfOk}
use Rattle.bloom_forms.specs.Roots.{Roots}
use Rattle.topo_types.specs.Code.Built.{site_seen}
use Rattle.topo_types.proofs.Faults.BuiltFacts.{roots_within, roots_found}
use Rattle.topo_types.proofs.view.components.roots_with.Goals as goal

pub bounds-as_slice-number : goal.bounds-as_slice-number
bounds-as_slice-number c =
    let within = roots_within c.args.names.now (site_seen c.args.site.now) c.args.roots.now c.in-Some.all c.args.number c.requires.roots c.in-Some.is c.requires.built c.requires.within in
    rw c.as_slice.ensures within

pub returns-in-Some : goal.returns-in-Some
returns-in-Some c =
    let own = c.index-as_slice-number.result in
    let found = roots_found c.args.names.now (site_seen c.args.site.now) c.args.roots.now c.in-Some.all c.args.number c.requires.roots c.in-Some.is c.requires.built c.requires.within c.args.output.now own in
    let row = c.as_slice-in-Some.ensures ∙ c.index-as_slice-number.is ∙ ap (λ (all : List Roots). get_or all c.args.number own) c.as_slice.ensures ∙ found in
    subst (λ (wanted : Roots). IfOk c.from_slice.result (λ roots. roots.items ≡ wanted)) row c.from_slice.ensures.items
