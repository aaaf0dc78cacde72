-- The limits of an event: which of them it meets first, if any.
use Rattle.std.specs.Prelude.{ℕ, ◌+◌, ◌-◌, ◌==◌, not, nat_le, nat_lt, Bool, if◌then◌else◌, Option, None, Some, Result, Ok, Err, List, [], ◌∷◌, length, slice_get}
use Rattle.std.specs.List.{list_all, flat_map, range_with_len, enumerate_from, sum_by}
use Rattle.blz_set.specs.RecordSet.{row_limit}
use Rattle.bloom_forms.specs.declared.program.Program.{Program}
use Rattle.bloom_forms.specs.Step.{Sets}
use Rattle.bloom_eval.specs.Step.{counted}
use Rattle.topo_forms.specs.Data.{Data}
use Rattle.topo_forms.specs.View.{End, Stream}
use Rattle.messages.specs.Messages.{Pair, Entry, all_pairs}
use Rattle.inbox.specs.Instances.{Instance}
use Rattle.inbox.specs.Timesteps.{SetOff, set_off}
use Rattle.inbox.specs.Emission.{Kept, list_of, emit_step, seal_all}
use Rattle.inbox.specs.Lives.{of_entry, kept_after}
use Rattle.inbox.specs.Wiring.{Wiring, instances_at, instance_at}
use Rattle.inbox.specs.Events.{Part, Event, deliver, batch, order, take_one, Refusal}
use Rattle.inbox.specs.Executions.{Execution, emitted_list, pairs_of}
pub use Rattle.messages.specs.Lists.{message_limit}

-- what an event can meet: a set of a step has too many rows, or the emitted lists have too many messages
pub data Limit : Type 0 where
  too_many_rows : Limit
  too_many_messages : Limit

-- no set that counts in a step is too long
abbrev pub step_fits : Program → (tables now : Sets) → Bool
step_fits program tables now = list_all (λ rows. nat_le (length rows) row_limit) (counted program tables now)

-- ---- messages

-- how many replicas send a stream: one of a source
abbrev pub senders_in : Wiring → (origin : Option End) → ℕ
senders_in w None = 1
senders_in w (Some spot) = length (instances_at w spot.0)

-- how many messages the lists of a stream's sending replicas have
abbrev pub messages_of : Wiring → Data → Execution → (stream : ℕ) → Stream → ℕ
messages_of w given x s stream = sum_by (λ replica. length (emitted_list w given x s replica)) (range_with_len 0 (senders_in w stream.origin))

-- how many messages all emitted lists have together
abbrev pub all_messages : Wiring → Data → Execution → ℕ
all_messages w given x = sum_by (λ place. messages_of w given x place.0 place.1) (enumerate_from 0 w.streams)

-- the outputs of a component that have a stream, by their numbers
abbrev pub output_from : (component : ℕ) → Option End → List ℕ
output_from component None = []
output_from component (Some spot) = if spot.0 == component then spot.1 ∷ [] else []

abbrev pub outputs_from : Wiring → (component : ℕ) → List ℕ
outputs_from w component = flat_map (λ stream. output_from component stream.origin) w.streams

-- how many messages the lists of these outputs have
abbrev pub messages_in : (outputs : List ℕ) → Kept → ℕ
messages_in outputs kept = sum_by (λ output. length (list_of kept output)) outputs

-- ---- the limit that is met first

-- at the seals, where other lists have so many messages
abbrev pub limit_at_seals : Instance → SetOff → (outputs : List ℕ) → (others : ℕ) → Kept → Option Limit
limit_at_seals i s outputs others kept =
    if nat_lt message_limit (others + messages_in outputs (record { tables = kept.tables; lists = seal_all i s.whole kept.lists })) then Some too_many_messages else None

-- in timesteps, each before its emission, and then at the seals
abbrev pub limit_in : Program → Instance → SetOff → (outputs : List ℕ) → (others : ℕ) → Kept → List Sets → Option Limit
limit_in program i s outputs others kept [] = limit_at_seals i s outputs others kept
limit_in program i s outputs others kept (now ∷ nows) =
    let after = emit_step program kept now in
    let on = limit_in program i s outputs others after nows in
    if not (step_fits program kept.tables now) then Some too_many_rows
    else (if nat_lt message_limit (others + messages_in outputs after) then Some too_many_messages else on)

abbrev pub limit_of : Option Program → Instance → SetOff → (outputs : List ℕ) → (others : ℕ) → Kept → Option Limit
limit_of None i s outputs others kept = None
limit_of (Some program) i s outputs others kept = limit_in program i s outputs others kept s.steps

-- ---- the limit that an event meets

-- an instance goes through what is set off
abbrev pub limit_at : Wiring → Data → Execution → (component replica : ℕ) → SetOff → Option Limit
limit_at w given x component replica s =
    let i = instance_at w component replica in
    let kept = kept_after i (x.logs component) (x.lives component replica) in
    let outputs = outputs_from w component in
    limit_of i.program i s outputs (all_messages w given x - messages_in outputs kept) kept

-- an instance hears these pairs, where no part is refused
abbrev pub limit_of_pairs : Wiring → Data → Execution → (component replica : ℕ) → Result (List Pair) Refusal → Option Limit
limit_of_pairs w given x component replica (Err refusal) = None
limit_of_pairs w given x component replica (Ok pairs) = limit_at w given x component replica (set_off (instance_at w component replica) (all_pairs (x.lives component replica).last.heard) pairs)

-- an instance hears parts at once
abbrev pub limit_of_hearing : Wiring → Data → List Part → (component replica : ℕ) → Execution → Option Limit
limit_of_hearing w given parts component replica x = limit_of_pairs w given x component replica (pairs_of w given x (instance_at w component replica) parts)

-- a replica takes this entry, where there is one
abbrev pub limit_of_taking : Wiring → Data → Execution → (component replica : ℕ) → Option Entry → Option Limit
limit_of_taking w given x component replica None = None
limit_of_taking w given x component replica (Some entry) = limit_at w given x component replica (of_entry (instance_at w component replica) entry)

-- the limit that a legal event meets first
abbrev pub limit_of_event : Wiring → Data → Event → Execution → Option Limit
limit_of_event w given (deliver part component replica) x = limit_of_hearing w given (part ∷ []) component replica x
limit_of_event w given (batch parts component replica) x = limit_of_hearing w given parts component replica x
limit_of_event w given (order part component) x = None
limit_of_event w given (take_one component replica) x = limit_of_taking w given x component replica (slice_get (x.logs component) (x.lives component replica).last.taken)
