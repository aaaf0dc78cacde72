use Rattle.std.proofs.Common.{◌<◌, ◌∙◌, ap, sym, subst, length}
use Rattle.topo_types.specs.Code.Built.{site_seen}
use Rattle.topo_forms.specs.Sites.{side_number}
use Rattle.topo_types.proofs.Faults.OfViewLemmas.{port_within, output_within}
use Rattle.topo_types.proofs.validity.of_view.is_short.Goals as goal

pub derived_note-requires-clause-port : goal.derived_note-requires-clause-port
derived_note-requires-clause-port c =
    subst (λ (n : _). n < length c.args.site.now.ports)
    (sym (c.side_number-port.ensures.number ∙ ap (λ (sides : _). side_number sides c.args.note.now.from) c.as_slice.ensures))
    (port_within (site_seen c.args.site.now) c.args.note.now c.requires.known)

pub derived_note-requires-clause-output : goal.derived_note-requires-clause-output
derived_note-requires-clause-output c =
    subst (λ (n : _). n < length c.args.site.now.outputs)
    (sym (c.side_number-output.ensures.number ∙ ap (λ (sides : _). side_number sides c.args.note.now.to) c.as_slice-2.ensures))
    (output_within (site_seen c.args.site.now) c.args.note.now c.requires.known)
