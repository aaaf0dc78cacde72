use Rattle.std.proofs.Common.{◌≡◌, ◌∷◌, [], Some, map, take}
use Rattle.path_annotate.proofs.annotation.stock_notes.Given as goal

abbrev pub invariant-loop-note : goal.invariant-loop-note
invariant-loop-note l = l.notes.items ≡ map (λ note. Some note ∷ []) (take l.note-index l.ports)
