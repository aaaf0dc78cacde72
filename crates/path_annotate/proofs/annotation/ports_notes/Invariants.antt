use Rattle.std.proofs.Common.{◌≡◌, map, take}
use Rattle.path_annotate.specs.Code.ReadingUses.{path_note_from}
use Rattle.path_annotate.proofs.annotation.ports_notes.Given as goal

abbrev pub invariant-loop-port : goal.invariant-loop-port
invariant-loop-port l = l.notes.items ≡ map (λ port. map (path_note_from l.rules port) l.outputs) (take l.port-index l.ports)
