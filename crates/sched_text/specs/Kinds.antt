-- The kinds of lines, each as its fields in order.
use Rattle.std.specs.Prelude.{ℕ, ◌&&◌, nat_le, Bool, true, false, List, [], ◌∷◌, length, Option, Some, None, if◌then◌else◌, codes}
use Rattle.std.specs.Option.{option_map}
use Rattle.std.specs.Str.{bytes_eq}
use Rattle.sched_text.specs.declared.event.Sent.{Sent}
use Rattle.sched_text.specs.declared.event.Part.{Part}
use Rattle.sched_text.specs.declared.event.Event.{Event}
use Rattle.sched_text.specs.declared.event.Event.TheVariants as events
use Rattle.sched_text.specs.Fields.{Field, Spot, name_of, number_of, spot_of, only_if, ◌>>=◌}

-- the most groups of a batch
abbrev pub part_limit : ℕ
part_limit = 64

-- what stands at the front of some fields, and the fields behind it
abbrev pub Front : Type 0 → Type 0
Front X = Option (X × List Field)

-- what the first field stands for, and the fields behind it
abbrev pub first_as : {X : Type 0} → (Field → Option X) → List Field → Front X
first_as meaning [] = None
first_as meaning (field ∷ others) = option_map (λ x. (x, others)) (meaning field)

abbrev pub name_at : List Field → Front (List ℕ)
name_at fields = first_as name_of fields

abbrev pub number_at : List Field → Front ℕ
number_at fields = first_as number_of fields

abbrev pub spot_at : List Field → Front Spot
spot_at fields = first_as spot_of fields

-- this word
abbrev pub word_at : List ℕ → List Field → Front (List ℕ)
word_at word fields = first_as (λ field. only_if (bytes_eq field word) word) fields

-- no field is left
abbrev pub is_empty : List Field → Bool
is_empty [] = true
is_empty (field ∷ others) = false

-- x, where no field is left
abbrev pub at_end : {X : Type 0} → X → List Field → Option X
at_end x fields = only_if (is_empty fields) x

-- STREAM REPLICA INDEX
abbrev pub sent_at : List Field → Front Sent
sent_at fields = do
  stream ← name_at fields
  replica ← number_at stream.1
  index ← number_at replica.1
  Some (record { stream = stream.0; replica = replica.0; index = index.0 }, index.1)

-- STREAM REPLICA INDEX PORT
abbrev pub part_at : List Field → Front Part
part_at fields = do
  sent ← sent_at fields
  port ← name_at sent.1
  Some (record { sent = sent.0; port = port.0 }, port.1)

-- groups of four fields each, up to the end
abbrev pub parts_of : List Field → Option (List Part)
parts_of [] = Some []
parts_of (stream ∷ replica ∷ index ∷ port ∷ others) = do
  part ← part_at (stream ∷ replica ∷ index ∷ port ∷ [])
  parts ← parts_of others
  Some (part.0 ∷ parts)
parts_of fields = None

-- 1 to 64 groups
abbrev pub groups_of : List Field → Option (List Part)
groups_of fields = do
  parts ← parts_of fields
  only_if (nat_le 1 (length parts) && nat_le (length parts) part_limit) parts

-- deliver STREAM REPLICA INDEX to COMPONENT.PORT REPLICA
abbrev pub deliver_of : List Field → Option Event
deliver_of fields = do
  sent ← sent_at fields
  to ← word_at (codes "to") sent.1
  spot ← spot_at to.1
  replica ← number_at spot.1
  at_end (events.Deliver sent.0 spot.0.component spot.0.port replica.0) replica.1

-- order STREAM REPLICA INDEX to COMPONENT.PORT
abbrev pub order_of : List Field → Option Event
order_of fields = do
  sent ← sent_at fields
  to ← word_at (codes "to") sent.1
  spot ← spot_at to.1
  at_end (events.Order sent.0 spot.0.component spot.0.port) spot.1

-- take COMPONENT REPLICA
abbrev pub take_of : List Field → Option Event
take_of fields = do
  component ← name_at fields
  replica ← number_at component.1
  at_end (events.Take component.0 replica.0) replica.1

-- batch COMPONENT REPLICA GROUP ..
abbrev pub batch_of : List Field → Option Event
batch_of fields = do
  component ← name_at fields
  replica ← number_at component.1
  parts ← groups_of replica.1
  Some (events.Batch component.0 replica.0 parts)

-- the event of a line, by its first field and the others
abbrev pub event_of : Field → List Field → Option Event
event_of first others =
    if bytes_eq first (codes "deliver") then deliver_of others
    else (if bytes_eq first (codes "order") then order_of others
    else (if bytes_eq first (codes "take") then take_of others
    else (if bytes_eq first (codes "batch") then batch_of others
    else None)))
