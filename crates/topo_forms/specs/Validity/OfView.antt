-- The kinds ReplicaMismatch, SealInCycle and Understated. They are asked where all names name something, so they go by the view.
use Rattle.std.specs.Prelude.{ℕ, ◌&&◌, not, Bool, false, Option, List, is_some}
use Rattle.std.specs.List.{list_any}
use Rattle.std.specs.Option.{option_map_or}
use Rattle.bloom_forms.specs.Query.{Name}
use Rattle.bloom_forms.specs.declared.note.Note.{Note}
use Rattle.bloom_forms.specs.Note.{covers}
use Rattle.topo_forms.specs.declared.topology.Declared.{Declared}
use Rattle.topo_forms.specs.Feeds.{can_be_paired}
use Rattle.topo_forms.specs.Regions.{is_in_cycle}
use Rattle.topo_forms.specs.Sites.{Site, side_number}
use Rattle.topo_forms.specs.View.{View, ends_of, is_order, mode_of, mode_key, replicas_of, stream_replicas}
use Rattle.topo_forms.specs.ViewOf.{note_from, derived_note}

-- a component isn't Order and has replicas that can't be paired with so many senders
abbrev pub is_unpaired : View → (senders component : ℕ) → Bool
is_unpaired v senders c = not (is_order v c) && not (can_be_paired senders (replicas_of v c))

-- a stream goes to a port with whose replicas those that send it can't be paired
abbrev pub is_mismatched : View → (stream : ℕ) → Bool
is_mismatched v s = list_any (λ end. is_unpaired v (stream_replicas v s) end.0) (ends_of v s)

-- a component of a cyclic region has the mode Pass or Seal
abbrev pub seals_in_cycle : View → (component : ℕ) → Bool
seals_in_cycle v c = is_some (mode_key (mode_of v c)) && is_in_cycle v c

-- a declared note doesn't cover the one that is derived, where one is
abbrev pub falls_short : Note → Option Note → Bool
falls_short declared derived = option_map_or (λ note. not (covers declared note)) derived false

-- a declared note doesn't cover the derived note of the same port and output
abbrev pub is_short : (attributes : List Name) → Site → Declared → Bool
is_short attributes site d = falls_short (note_from attributes d.note d.gate) (derived_note attributes site.program (side_number site.ports d.from) (side_number site.outputs d.to))

-- a component has such a note
abbrev pub is_understated : (attributes : List Name) → Site → Bool
is_understated attributes site = list_any (is_short attributes site) site.entry.notes
