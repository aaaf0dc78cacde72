use Rattle.std.proofs.Common.{◌≡◌, ◌∙◌, List, map, length, subst, ap}
use Rattle.bloom_forms.specs.Query.{Name}
use Rattle.topo_forms.specs.Code.Index.{Places}
use Rattle.topo_forms.proofs.Views.IndexLemmas.{index_of}
use Rattle.topo_forms.proofs.index.Index.of.Goals as goal

pub returns : goal.returns
returns c =
    let streams : map (λ name. name.now) c.deref.result.now ≡ map (λ s. s.name) c.args.kept.now.streams = rw (c.deref.ensures.value, ← c.as_slice.ensures) c.in_ok-streams.ensures in
    let components : map (λ name. name.now) c.deref-2.result.now ≡ map (λ x. x.name) c.args.kept.now.components = rw (c.deref-2.ensures.value, ← c.as_slice-2.ensures) c.in_ok-components.ensures in
    index_of c.args.kept.now c.in_ok-places_of.field-0 c.in_ok-places_of-2.field-0 c.from_vec.result
    (subst (λ (names : List Name). Places names c.in_ok-places_of.field-0) streams c.in_ok-places_of.ensures)
    (subst (λ (names : List Name). Places names c.in_ok-places_of-2.field-0) components c.in_ok-places_of-2.ensures)
    (ap length c.from_vec.ensures ∙ c.in_ok-ports.ensures.each ∙ ap length c.as_slice-3.ensures)
    (rw (c.from_vec.ensures, ← c.as_slice-3.ensures) c.in_ok-ports.ensures.ports)
