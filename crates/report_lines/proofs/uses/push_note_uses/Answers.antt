-- The columns, the mode and the dependencies are those of the port and its component.
use Rattle.std.proofs.Common.{◌≡◌, ◌++◌, OnOk, Some, subst}
use Rattle.std.specs.List.{flat_map}
use Rattle.topo_forms.specs.View.{streams_to}
use Rattle.report_lines.specs.DeriveText.{use_line, port_uses}
use Rattle.report_lines.specs.Words.{Text}
use Rattle.report_lines.proofs.uses.push_note_uses.Goals as goal

pub returns : goal.returns
returns c =
    let v = c.args.report.now.valid.now.view in
    let labels = c.args.report.now.labels.now in
    let same : flat_map (λ s. use_line v labels c.args.note c.port_attrs.result c.mode.result c.args.fds.now s (c.args.component, c.args.port)) (streams_to v c.args.component c.args.port)
    ≡ port_uses v labels c.args.component c.args.port (Some c.args.note) =
    λ i. flat_map (λ s. use_line v labels c.args.note (c.port_attrs.ensures i) (c.mode.ensures i) (c.requires.fds i) s (c.args.component, c.args.port)) (streams_to v c.args.component c.args.port) in
    subst (λ (uses : Text). OnOk c.push_port_uses.result (c.push_port_uses.new.text.items ≡ c.args.text.now.items ++ uses)) same c.push_port_uses.ensures
