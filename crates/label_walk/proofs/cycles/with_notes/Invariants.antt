-- combined with the notes from the ports so far
use Rattle.std.proofs.Common.{◌≡◌, fold, take}
use Rattle.std.specs.List.{filter_map, flat_map}
use Rattle.bloom_forms.specs.Note.{combine}
use Rattle.topo_forms.specs.View.{component_at}
use Rattle.label_walk.proofs.cycles.with_notes.Given as goal

abbrev pub invariant-loop-port : goal.invariant-loop-port
invariant-loop-port l = l.combined ≡ fold combine l.initial.combined (flat_map (filter_map (λ n. n)) (take l.port (component_at l.valid.view l.component).notes))
