-- The paths through one port more.
use Rattle.std.proofs.Common.{◌≡◌, ◌∙◌, ◌++◌, ℕ, List, ap, sym}
use Rattle.blz_value.proofs.Ranges.{flat_below_more}
use Rattle.topo_forms.specs.View.{note_at}
use Rattle.label_rules.specs.declared.label.PathLabel.{PathLabel}
use Rattle.coord_modes.specs.Code.Tried.{port_paths_with}
use Rattle.coord_modes.proofs.tried.paths_with.Goals as goal

pub loop-port-preserved : goal.loop-port-preserved
loop-port-preserved c =
    let v = c.args.valid.now.view in
    let of = λ (p : ℕ). port_paths_with v c.args.labels.now c.args.component p c.args.mode (note_at v c.args.component p c.args.output) in
    let more : c.push_noted_paths.new.paths.items ≡ c.loop-port.paths.items ++ of c.loop-port.port =
    c.in_ok-push_noted_paths.ensures ∙ ap (λ note. c.loop-port.paths.items ++ port_paths_with v c.args.labels.now c.args.component c.loop-port.port c.args.mode note) c.note-note.ensures in
    more ∙ ap (λ (paths : List PathLabel). paths ++ of c.loop-port.port) c.loop-port.invariant ∙ sym (flat_below_more of c.loop-port.port)
