use Rattle.std.proofs.Common.{◌≡◌, drop}
use Rattle.topo_forms.specs.Validity.Twice.{repeats_in_gate}
use Rattle.topo_types.proofs.validity.twice.repeats_in_gate.Given as goal

abbrev pub invariant-loop-note : goal.invariant-loop-note
invariant-loop-note l = repeats_in_gate (drop l.note-index l.notes) ≡ repeats_in_gate l.notes
