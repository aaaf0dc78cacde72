-- What a net finds in its books.
use Rattle.std.specs.Prelude.{◌≡◌, ◌&&◌, ℕ, nat_lt, Option, None, List, [], length, slice_get, if◌then◌else◌}
use Rattle.blz_value.specs.Record.{Row}
use Rattle.topo_forms.specs.View.{View, replicas_of, stream_replicas}
use Rattle.inbox.specs.Inbox.{HasHeard}
use Rattle.inbox.specs.Instances.{Instance}
use Rattle.messages.specs.Messages.{Batch}
use Rattle.inbox.specs.Timesteps.{held_count}
use Rattle.messages.specs.Lists.{list_at}
use Rattle.inbox.specs.Places.{instance_place, list_place}
use Rattle.sched_net.specs.declared.seated.Ear.{Ear}
use Rattle.sched_net.specs.declared.seated.Ear.TheVariants.{Hears, Takes}

-- the list of a sending replica of a stream, and the empty list where it isn't there
abbrev pub list_seen : {X : Type 0} → View → List (List X) → (stream replica : ℕ) → List X
list_seen v lists s r = if nat_lt s (length v.streams) && nat_lt r (stream_replicas v s) then list_at lists (list_place v s r) else []

-- what is kept of an instance, where it is there
abbrev pub seat_seen : {X : Type 0} → View → List X → (component replica : ℕ) → Option X
seat_seen v seats c r = if nat_lt r (replicas_of v c) then slice_get seats (instance_place v c r) else None

-- so many records wait in an inbox; what comes to an Order component doesn't wait
abbrev pub IsHeldBy : Ear → (held : ℕ) → Type 0
IsHeldBy (Hears inbox known) held = (i : Instance) (records : List Row) (batches : List Batch) → HasHeard i records batches inbox → held ≡ held_count i batches
IsHeldBy (Takes taken) held = held ≡ 0
