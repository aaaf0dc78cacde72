-- The lists of sources at the start: those of some sources have what they emit, and all others are empty.
use Rattle.std.specs.Prelude.{◌≡◌, ◌<◌, ◌≤◌, ℕ, List, [], length}
use Rattle.topo_forms.specs.Data.{Data}
use Rattle.topo_forms.specs.Messages.{Message, emitted_of_source}
use Rattle.topo_forms.specs.View.{View, stream_replicas}
use Rattle.messages.specs.Lists.{list_at}
use Rattle.inbox.specs.Places.{list_place, list_count}

-- the first so many sources emitted what they hold
pub record SourcesEmitted (v : View) (given : Data) (sources : ℕ) (lists : List (List Message)) : Type 0 where
  pub count : length lists ≡ list_count v
  pub emitted : (s : ℕ) → s < sources → list_at lists (list_place v s 0) ≡ emitted_of_source v given s
  pub others : (s r : ℕ) → sources ≤ s → s < length v.streams → r < stream_replicas v s → list_at lists (list_place v s r) ≡ []
