use Rattle.std.proofs.Common.{◌≡◌, ◌<◌, ◌∙◌, ap, length, map, subst, sym}
use Rattle.topo_forms.specs.declared.topology.Topology.{Topology}
use Rattle.topo_forms.specs.Found.{into_ports}
use Rattle.topo_forms.specs.declared.graph_facts.GraphFacts.{GraphFacts}
use Rattle.topo_forms.specs.Kept.{view_kept}
use Rattle.topo_forms.specs.Modes.{topology_with_mode}
use Rattle.topo_forms.specs.View.{View, component_numbers, with_mode}
use Rattle.topo_graph.proofs.NextWhole as lemmas
use Rattle.topo_graph.proofs.RowsKept.{rows_kept, has_ports}
use Rattle.topo_graph.proofs.changing.replace_mode.Goals as goal

pub topology_with_mode-requires-clause-within : goal.topology_with_mode-requires-clause-within
topology_with_mode-requires-clause-within c =
    subst (λ (t : Topology). c.args.component < length t.components) (sym c.into_parts-topology.ensures.topology)
    (lemmas.written_within c.args.valid c.args.component c.args.mode c.whole.ensures c.requires)

pub found_again-requires-clause-ends : goal.found_again-requires-clause-ends
found_again-requires-clause-ends c =
    lemmas.next_ends c.args.valid c.args.component c.args.mode c.whole.ensures c.requires (view_kept c.kept_with_mode-kept.result)
    (c.kept_with_mode-kept.ensures ∙ ap (λ (v : View). with_mode v c.args.component c.args.mode) c.into_parts-topology.ensures.kept)

pub found_again-requires-clause-ports : goal.found_again-requires-clause-ports
found_again-requires-clause-ports c =
    has_ports (view_kept c.kept_with_mode-kept.result)
    (lemmas.next_valid c.args.valid c.args.component c.args.mode c.whole.ensures c.requires (view_kept c.kept_with_mode-kept.result)
    (c.kept_with_mode-kept.ensures ∙ ap (λ (v : View). with_mode v c.args.component c.args.mode) c.into_parts-topology.ensures.kept))

pub found_again-requires-clause-rows : goal.found_again-requires-clause-rows
found_again-requires-clause-rows c =
    let copied : c.in_ok-rows.rows ≡ map (into_ports c.args.valid.view) (component_numbers c.args.valid.view) = c.in_ok-rows.ensures ∙ ap (λ (f : GraphFacts). f.into) c.found.ensures in
    copied
    ∙ rows_kept c.args.valid.view c.args.component c.args.mode
    ∙ ap (λ (v : View). map (into_ports v) (component_numbers v)) (sym (c.kept_with_mode-kept.ensures ∙ ap (λ (v : View). with_mode v c.args.component c.args.mode) c.into_parts-topology.ensures.kept))

view_is : (c : goal.In_ok-found) → view_kept c.kept_with_mode-kept.result ≡ with_mode c.args.valid.view c.args.component c.args.mode
view_is c = c.kept_with_mode-kept.ensures ∙ ap (λ (v : View). with_mode v c.args.component c.args.mode) c.into_parts-topology.ensures.kept

topology_is : (c : goal.In_ok-found) → c.in_ok-topology.topology ≡ topology_with_mode c.args.valid.view.attributes c.args.valid.topology c.args.component c.args.mode
topology_is c =
    c.in_ok-topology.ensures
    ∙ ap (λ names. topology_with_mode names c.into_parts-topology.result.0 c.args.component c.args.mode) (c.names-names.ensures.all ∙ ap (λ (v : View). v.attributes) c.into_parts-topology.ensures.kept)
    ∙ ap (λ (t : Topology). topology_with_mode c.args.valid.view.attributes t c.args.component c.args.mode) c.into_parts-topology.ensures.topology

pub new-requires-clause-whole : goal.new-requires-clause-whole
new-requires-clause-whole c =
    lemmas.next_whole c.args.valid c.args.component c.args.mode c.whole.ensures c.requires (record { topology = c.in_ok-topology.topology; view = view_kept c.kept_with_mode-kept.result })
    (let topology = topology_is c in let view = view_is c in λ i. record { topology = topology i; view = view i })

pub new-requires-clause-valid : goal.new-requires-clause-valid
new-requires-clause-valid c = lemmas.next_valid c.args.valid c.args.component c.args.mode c.whole.ensures c.requires (view_kept c.kept_with_mode-kept.result) (view_is c)

pub new-requires-clause-bounded : goal.new-requires-clause-bounded
new-requires-clause-bounded c = lemmas.next_bounded c.args.valid c.args.component c.args.mode c.whole.ensures c.requires (view_kept c.kept_with_mode-kept.result) (view_is c)
