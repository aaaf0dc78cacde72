use Rattle.std.proofs.Common.{List, get_or, ap, ◌∙◌}
use Rattle.blz_value.specs.declared.attrs.Attrs.{Attrs}
use Rattle.topo_forms.specs.View.{no_attrs}
use Rattle.topo_types.specs.Code.Built.{site_seen}
use Rattle.topo_types.proofs.Faults.BuiltFacts.{gates_within, gate_found}
use Rattle.topo_types.proofs.view.components.gate_with.Goals as goal

pub bounds-as_slice-number : goal.bounds-as_slice-number
bounds-as_slice-number c =
    let within = gates_within c.args.names.now (site_seen c.args.site.now) c.args.gates.now c.in-Some.all c.args.number c.requires.gates c.in-Some.is c.requires.built c.requires.within in
    rw c.as_slice.ensures within

pub returns-in-Some : goal.returns-in-Some
returns-in-Some c =
    let found = gate_found c.args.names.now (site_seen c.args.site.now) c.args.gates.now c.in-Some.all c.args.number c.requires.gates c.in-Some.is c.requires.built c.requires.within c.args.output.now no_attrs in
    ap (λ (all : List Attrs). get_or all c.args.number no_attrs) c.as_slice.ensures ∙ found
