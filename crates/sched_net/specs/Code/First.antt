-- The books of instances that heard nothing, and of a net that made no step.
use Rattle.std.specs.Prelude.{◌≡◌, ◌<◌, ℕ, IsSome, Some, List, [], map, length, slice_get}
use Rattle.bloom_eval.specs.Step.{nothing_kept}
use Rattle.topo_forms.specs.Data.{Data}
use Rattle.topo_forms.specs.View.{View, program_of, replicas_of}
use Rattle.inbox.specs.Emission.{nothing_emitted}
use Rattle.inbox.specs.Standing.{Seat}
use Rattle.inbox.specs.Wiring.{wiring_of, instance_at}
use Rattle.sched_net.specs.Bench.{instance_components}
use Rattle.messages.specs.Lists.{Listed}
use Rattle.sched_net.specs.Net.{ShowsEar, ShowsSeat, BooksStand}
use Rattle.inbox.specs.Places.{instance_place}
use Rattle.sched_net.specs.declared.books.Books.{Books}
use Rattle.sched_net.specs.declared.seated.Ear.{Ear}
use Rattle.sched_net.specs.declared.seated.Seated.{Seated}

-- the seat of an instance at the start
abbrev pub first_seat : View → (component replica : ℕ) → Seat
first_seat v c r = record { kept = nothing_emitted (instance_at (wiring_of v) c r); heard = []; taken = 0 }

-- an instance heard nothing, whatever is emitted
abbrev pub HeardNothing : View → (component replica : ℕ) → Ear → Type 0
HeardNothing v c r ear = (l : Listed) → ShowsEar v l c r (first_seat v c r) ear

-- its books at the start
abbrev pub IsFirst : View → (component replica : ℕ) → Seated → Type 0
IsFirst v c r b = (l : Listed) → ShowsSeat v l c r (first_seat v c r) b

-- the books of each instance at the start, where they are so many
pub record AreFirst (v : View) (seats : List Seated) : Type 0 where
  pub each : (c r : ℕ) (b : Seated) → c < length v.components → r < replicas_of v c → slice_get seats (instance_place v c r) ≡ Some b → IsFirst v c r b

-- each component has a body
abbrev pub AllHaveBodies : View → Type 0
AllHaveBodies v = (c : ℕ) → c < length v.components → IsSome (program_of v c)

-- where each component has a body, books stand for no step, with the tables of shells that were just loaded
pub record StandFirst (v : View) (given : Data) (b : Books) : Type 0 where
  pub stand : AllHaveBodies v → BooksStand v given [] b
  pub tables : (bodies : AllHaveBodies v) → (stand bodies).tables ≡ map (λ c. nothing_kept (program_of v c)) (instance_components v)
