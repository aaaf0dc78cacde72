use Rattle.std.proofs.Common.{◌∙◌, Err, List, ap, length}
use Rattle.std.proofs.lemmas.Result.{err_from_is_err_and}
use Rattle.topo_forms.specs.declared.fault.ValidFault.{ValidFault}
use Rattle.topo_forms.specs.declared.topology.ComponentEntry.{ComponentEntry}
use Rattle.topo_types.specs.Code.Built.{sites_seen}
use Rattle.topo_forms.specs.Sites.{sites_of}
use Rattle.topo_types.proofs.Faults.ValidatingLemmas.{as_many, names_answer}
use Rattle.topo_types.proofs.validation.validate.Goals as goal

pub names_of-requires : goal.names_of-requires
names_of-requires c =
    ap length c.deref.ensures.value
    ∙ as_many c.args.topology.now.components c.args.modules.now c.in_ok-sites.sites.items (c.in_ok-sites.ensures ∙ ap (λ (xs : List ComponentEntry). sites_of xs c.args.modules.now) c.as_slice.ensures)

pub returns-in_err-names : goal.returns-in_err-names
returns-in_err-names c =
    let p = err_from_is_err_and c.from_residual-in_err-names.result c.from_residual-in_err-names.ensures.1 in
    names_answer c.args.topology.now c.args.modules.now c.deref.result.now
    (ap sites_seen c.deref.ensures.value ∙ c.in_ok-sites.ensures ∙ ap (λ (xs : List ComponentEntry). sites_of xs c.args.modules.now) c.as_slice.ensures)
    c.in_err-names.field-0.0 c.in_err-names.ensures c.from_residual-in_err-names.result
    (p.1 ∙ ap (λ (e : ValidFault). Err e) p.2)
