-- An execution is complete where nothing is left to deliver, to order or to take, and nothing is held.
use Rattle.std.specs.Prelude.{◌≡◌, ℕ, ◌+◌, ◌-◌, not, IsTrue, if◌then◌else◌, List, filter, length}
use Rattle.std.specs.List.{list_any, range_with_len, enumerate_from, sum_by}
use Rattle.topo_forms.specs.Messages.{Message, rows_in}
use Rattle.messages.specs.Messages.{Pair, is_same_pair, is_same_entry, all_pairs}
use Rattle.topo_forms.specs.View.{is_order_mode}
use Rattle.inbox.specs.Timesteps.{held_count}
use Rattle.topo_forms.specs.Data.{Data}
use Rattle.inbox.specs.Wiring.{Wiring, instance_at, is_there, is_sequencer}
use Rattle.inbox.specs.Executions.{Execution, emitted_list}

-- how many pairs of port and record of an instance are held in its last life
abbrev pub held_count_at : Wiring → Execution → (component replica : ℕ) → ℕ
held_count_at w x component replica = held_count (instance_at w component replica) (x.lives component replica).last.heard

-- the messages of a list that weren't heard on a feed
abbrev pub unheard : (heard : List Pair) → (feed : ℕ) → List Message → List Message
unheard heard feed messages = filter (λ message. not (list_any (is_same_pair (feed, message)) heard)) messages

-- how many messages weren't delivered to an instance, over its feeds
abbrev pub undelivered : Wiring → Data → Execution → (component replica : ℕ) → ℕ
undelivered w given x component replica =
    sum_by
    (λ place. length (unheard (all_pairs (x.lives component replica).last.heard) place.0 (emitted_list w given x place.1.stream place.1.sender)))
    (enumerate_from 0 (instance_at w component replica).feeds)

-- how many records aren't in the log of a component, over its feeds
abbrev pub unordered : Wiring → Data → Execution → (component : ℕ) → ℕ
unordered w given x component =
    sum_by
    (λ feed. length (filter (λ r. not (list_any (is_same_entry (feed.port, r)) (x.logs component))) (rows_in (emitted_list w given x feed.stream feed.sender))))
    (instance_at w component 0).feeds

-- how many entries a replica hasn't taken
abbrev pub untaken : Execution → (component replica : ℕ) → ℕ
untaken x component replica = length (x.logs component) - (x.lives component replica).last.taken

-- what is left at an instance
abbrev pub left_of : Wiring → Data → Execution → (component replica : ℕ) → ℕ
left_of w given x component replica = if is_order_mode (instance_at w component replica).mode then untaken x component replica else undelivered w given x component replica

-- what isn't in the log of a component, where it is Order
abbrev pub left_out : Wiring → Data → Execution → (component : ℕ) → ℕ
left_out w given x component = if is_sequencer w component then unordered w given x component else 0

-- what is left at a component with so many replicas
abbrev pub left_at : Wiring → Data → Execution → (component replicas : ℕ) → ℕ
left_at w given x component replicas = left_out w given x component + sum_by (left_of w given x component) (range_with_len 0 replicas)

-- all that is left
abbrev pub left_count : Wiring → Data → Execution → ℕ
left_count w given x = sum_by (λ place. left_at w given x place.0 (length place.1)) (enumerate_from 0 w.components)

-- nothing is left and nothing is held
pub record IsComplete (w : Wiring) (given : Data) (x : Execution) : Type 0 where
  pub left : left_count w given x ≡ 0
  pub held : (component replica : ℕ) → IsTrue (is_there w component replica) → held_count_at w x component replica ≡ 0
