-- What is open, and what can be taken, is the same of any data and steps for which the same books stand.
use Rattle.std.proofs.Common.{◌≡◌, ◌<◌, ◌∙◌, ℕ, List, Some, length, nat_lt, slice_get, refl, ap, sym}
use Rattle.topo_forms.specs.Data.{Data}
use Rattle.topo_forms.specs.Feeds.{Feed}
use Rattle.topo_forms.specs.Messages.{Message}
use Rattle.topo_forms.specs.Valid.{IsValid}
use Rattle.topo_forms.specs.View.{View, stream_replicas}
use Rattle.inbox.specs.Events.{Step}
use Rattle.inbox.specs.Executions.{emitted_list}
use Rattle.messages.specs.Messages.{Entry}
use Rattle.inbox.specs.Wiring.{Wiring, wiring_of}
use Rattle.messages.specs.declared.message.Message.{Message as IdMessage}
use Rattle.sched_turns.specs.Windows.{Looked, IsWindow}
use Rattle.sched_net.specs.Net.{BooksStand, execution_in}
use Rattle.sched_net.specs.Seen.{list_seen}
use Rattle.sched_net.specs.declared.books.Books.{Books}
use Rattle.inbox.specs.Places.{instance_place}
use Rattle.sched_net.specs.declared.seated.Ear.{Ear}
use Rattle.sched_net.specs.declared.seated.Ear.TheVariants.{Hears, Takes}
use Rattle.sched_net.specs.declared.seated.Seated.{Seated}
use Rattle.sched_net.proofs.OrderingLemmas.{seat_at}
use Rattle.sched_net.proofs.EmittedSeen.{seen_emitted}
use Rattle.sched_run.specs.Made.{is_open_in, is_unordered, lane_list, can_take}
use Rattle.sched_run.specs.Code.Looking.{IsDelivery, IsOrdering, IsLane, IsTaker}
use Rattle.sched_run.specs.declared.lanes.Lane.{Lane}
use Rattle.sched_run.specs.declared.lanes.Lane.TheVariants.{Deliver, Order}
use Rattle.sched_run.specs.declared.lanes.Taker.{Taker}
use Rattle.sched_run.proofs.LookingLemmas.{heard_open, takes_nothing, took, window_same}

module _ (v : View) (b : Books) (valid : IsValid v) (given also : Data) (steps later : List Step) (stand : BooksStand v given steps b) (other : BooksStand v also later b) where
  abbrev w : Wiring
  w = wiring_of v

  -- emitted lists, and logs
  lists_same : (s r : ℕ) → r < stream_replicas v s → emitted_list w given (execution_in stand) s r ≡ emitted_list w also (execution_in other) s r
  lists_same s r within = sym (seen_emitted v given steps b stand valid s r within) ∙ seen_emitted v also later b other valid s r within

  logs_same : (c : ℕ) → c < length v.components → (execution_in stand).logs c ≡ (execution_in other).logs c
  logs_same c there = sym (stand.logs.each c there ∙ stand.stands.stands.logs c) ∙ other.logs.each c there ∙ other.stands.stands.logs c

  -- what is open on the lane of an instance
  heard_same : (c r n : ℕ) (feed : Feed) → IsDelivery v c r n feed → (index : ℕ) → is_open_in w given (execution_in stand) (Deliver c r n feed) index ≡ is_open_in w also (execution_in other) (Deliver c r n feed) index
  heard_same c r n feed is index =
      let seat = seat_at v given steps b stand c r is.is.there is.within in
      by_ear seat.0 seat.1 seat.0.ear refl
    where
      messages : List IdMessage
      messages = list_seen v b.lists.lists feed.stream feed.sender

      by_ear : (seated : Seated) → slice_get b.seats.items (instance_place v c r) ≡ Some seated → (ear : Ear) → seated.ear ≡ ear → is_open_in w given (execution_in stand) (Deliver c r n feed) index ≡ is_open_in w also (execution_in other) (Deliver c r n feed) index
      by_ear seated at (Hears inbox known) e =
          sym (heard_open v b valid c r n feed is seated at inbox known e messages refl (length messages) refl given steps stand index)
          ∙ heard_open v b valid c r n feed is seated at inbox known e messages refl (length messages) refl also later other index
      by_ear seated at (Takes taken) e = absurd (takes_nothing v b given steps stand c r taken seated is.is.there is.within is.hears at e)

  -- and on one of a log
  logged_same : (c : ℕ) (feed : Feed) → IsOrdering v c feed → (index : ℕ) → is_open_in w given (execution_in stand) (Order c feed) index ≡ is_open_in w also (execution_in other) (Order c feed) index
  logged_same c feed is index =
      ap (λ (log : List Entry). is_unordered log feed.port (emitted_list w given (execution_in stand) feed.stream feed.sender) index) (logs_same c is.is.there)
      ∙ ap (λ (list : List Message). is_unordered ((execution_in other).logs c) feed.port list index) (lists_same feed.stream feed.sender is.is.sender)

  pub open_same : (lane : Lane) → IsLane v lane → (index : ℕ) → is_open_in w given (execution_in stand) lane index ≡ is_open_in w also (execution_in other) lane index
  open_same (Deliver c r n feed) is index = heard_same c r n feed is index
  open_same (Order c feed) is index = logged_same c feed is index

  pub long_same : (lane : Lane) → IsLane v lane → length (lane_list w given (execution_in stand) lane) ≡ length (lane_list w also (execution_in other) lane)
  long_same (Deliver c r n feed) is = ap (λ (list : List Message). length list) (lists_same feed.stream feed.sender is.is.sender)
  long_same (Order c feed) is = ap (λ (list : List Message). length list) (lists_same feed.stream feed.sender is.is.sender)

  -- so a window that shows it does so of both
  pub shown_same : (lane : Lane) → IsLane v lane → (window : Looked) → IsWindow (is_open_in w given (execution_in stand) lane) (length (lane_list w given (execution_in stand) lane)) window → IsWindow (is_open_in w also (execution_in other) lane) (length (lane_list w also (execution_in other) lane)) window
  shown_same lane is window shows =
      window_same (is_open_in w given (execution_in stand) lane) (is_open_in w also (execution_in other) lane) (length (lane_list w given (execution_in stand) lane)) (length (lane_list w also (execution_in other) lane)) window
      (open_same lane is) (long_same lane is) shows

  -- whether a taker can take
  pub takes_same : (taker : Taker) → IsTaker v taker → can_take (execution_in stand) taker ≡ can_take (execution_in other) taker
  takes_same taker is =
      let seat = seat_at v given steps b stand taker.component taker.replica is.there is.within in
      let taken = sym (took v b given steps stand taker.component taker.replica seat.0 is.there is.within is.order seat.1) ∙ took v b also later other taker.component taker.replica seat.0 is.there is.within is.order seat.1 in
      ap (λ n. nat_lt n (length ((execution_in stand).logs taker.component))) taken
      ∙ ap (λ (log : List Entry). nat_lt ((execution_in other).lives taker.component taker.replica).last.taken (length log)) (logs_same taker.component is.there)
