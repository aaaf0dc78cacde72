-- Which sending replicas of a stream feed an instance.
use Rattle.std.specs.Prelude.{ℕ, Bool, ◌||◌, List, filter}
use Rattle.topo_forms.specs.Feeds.{are_paired}
use Rattle.blz_value.specs.NumberSets.{below}
use Rattle.topo_forms.specs.View.{View, stream_replicas, replicas_of, is_order}

-- a sending replica feeds it: into a log each does, else it is paired with it
abbrev pub is_sender : View → (component replica stream sender : ℕ) → Bool
is_sender v c j s i = is_order v c || are_paired (stream_replicas v s) (replicas_of v c) i j

-- all that do, in order
abbrev pub senders_for : View → (component replica stream : ℕ) → List ℕ
senders_for v c j s = filter (is_sender v c j s) (below (stream_replicas v s))
