use Rattle.std.proofs.Common.{List, Some, ap, ap₂, ◌∙◌}
use Rattle.blz_value.specs.declared.attrs.Fd.{Fd}
use Rattle.report_lines.specs.declared.refusal.Refusal.TheVariants as refusal
use Rattle.topo_forms.specs.Modes.{names_in}
use Rattle.bloom_forms.specs.Query.{Name}
use Rattle.command_checks.proofs.given_data.broken.Goals as goal

pub returns : goal.returns
returns c =
    let v = c.args.valid.now.view in
    let sides = c.fd_of-sides.result in
    ap₂ (λ (from to : List Name). Some (refusal.FdBroken from to c.args.first c.args.second))
    (c.in_ok-names_of.ensures ∙ ap (λ (names : List Name). names_in names sides.from.bits) c.attr_names-names.ensures ∙ ap (λ (fd : Fd). names_in v.attributes fd.from.bits) c.fd_of-sides.ensures)
    (c.in_ok-names_of-2.ensures ∙ ap (λ (names : List Name). names_in names sides.to.bits) c.attr_names-names.ensures ∙ ap (λ (fd : Fd). names_in v.attributes fd.to.bits) c.fd_of-sides.ensures)
