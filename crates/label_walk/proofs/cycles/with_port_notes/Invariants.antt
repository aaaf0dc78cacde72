-- combined with the notes so far
use Rattle.std.proofs.Common.{◌≡◌, [], fold, take, get_or}
use Rattle.std.specs.List.{filter_map}
use Rattle.bloom_forms.specs.Note.{combine}
use Rattle.topo_forms.specs.View.{component_at}
use Rattle.label_walk.proofs.cycles.with_port_notes.Given as goal

abbrev pub invariant-loop-output : goal.invariant-loop-output
invariant-loop-output l = l.combined ≡ fold combine l.initial.combined (filter_map (λ n. n) (take l.output (get_or (component_at l.valid.view l.component).notes l.port [])))
