-- What is open on a lane and for a taker, by what a net keeps.
use Rattle.std.specs.Prelude.{◌≡◌, ◌<◌, ◌≤◌, ◌&&◌, ℕ, nat_lt, not, Bool, true, false, Some, List, length, slice_get}
use Rattle.std.specs.List.{list_any}
use Rattle.std.specs.Option.{option_map_or, option_and_then}
use Rattle.topo_forms.specs.Data.{Data}
use Rattle.topo_forms.specs.Feeds.{Feed}
use Rattle.topo_forms.specs.View.{View, component_at, replicas_of, stream_replicas, is_order}
use Rattle.inbox.specs.Events.{Step}
use Rattle.blz_pool.specs.Entries.{EntryId}
use Rattle.messages.specs.Log.{is_same_entry_id}
use Rattle.inbox.specs.Wiring.{wiring_of, feeds_for}
use Rattle.messages.specs.declared.message.Message.{Message as IdMessage}
use Rattle.sched_turns.specs.Windows.{Looked, IsWindow, MayShow, OthersAreOpen}
use Rattle.sched_turns.specs.declared.windows.Stale.{Stale}
use Rattle.messages.specs.EmittedIds.{id_in}
use Rattle.messages.specs.Known.{is_known}
use Rattle.sched_net.specs.Net.{BooksStand, execution_in}
use Rattle.sched_net.specs.Reading.{IsRead}
use Rattle.sched_net.specs.declared.books.Books.{Books}
use Rattle.sched_run.specs.Made.{is_open_in, lane_list, can_take}
use Rattle.sched_run.specs.declared.lanes.Lane.{Lane}
use Rattle.sched_run.specs.declared.lanes.Lane.TheVariants.{Deliver, Order}
use Rattle.sched_run.specs.declared.lanes.Taker.{Taker}

-- an index of a list of so many isn't known on a feed
abbrev pub is_unknown_at : (known : List (List ℕ)) → (feed count index : ℕ) → Bool
is_unknown_at known feed count index = nat_lt index count && not (is_known known feed index)

-- a record stands at an index of a list that a log hasn't at a port
abbrev pub is_unlogged_at : (log : List EntryId) → (port : ℕ) → List IdMessage → (index : ℕ) → Bool
is_unlogged_at log port messages index = option_map_or (λ id. not (list_any (is_same_entry_id (port, id)) log)) (option_and_then id_in (slice_get messages index)) false

-- a feed is that of a port of a component, from a sending replica of a stream
pub record IsFeed (v : View) (component : ℕ) (feed : Feed) : Type 0 where
  pub there : component < length v.components
  pub port : feed.port < length (component_at v component).ports
  pub stream : feed.stream < length v.streams
  pub sender : feed.sender < stream_replicas v feed.stream

-- a lane is one of the topology
pub record IsDelivery (v : View) (component replica number : ℕ) (feed : Feed) : Type 0 where
  pub is : IsFeed v component feed
  pub within : replica < replicas_of v component
  pub hears : is_order v component ≡ false
  pub numbered : slice_get (feeds_for v component replica) number ≡ Some feed

pub record IsOrdering (v : View) (component : ℕ) (feed : Feed) : Type 0 where
  pub is : IsFeed v component feed
  pub order : is_order v component ≡ true

abbrev pub IsLane : View → Lane → Type 0
IsLane v (Deliver component replica number feed) = IsDelivery v component replica number feed
IsLane v (Order component feed) = IsOrdering v component feed

-- a taker is a replica of an Order component
pub record IsTaker (v : View) (taker : Taker) : Type 0 where
  pub there : taker.component < length v.components
  pub within : taker.replica < replicas_of v taker.component
  pub order : is_order v taker.component ≡ true

-- a window on a lane may be looked at again, by some data and steps for which the books stand: the list wasn't longer, an index at which it looked is open only where the window has it, and each that it has is open unless it may be stale
pub record MayLook (v : View) (b : Books) (lane : Lane) (stale : Stale) (window : Looked) : Type 0 where
  pub given : Data
  pub steps : List Step
  pub stand : BooksStand v given steps b
  pub inside : window.next ≤ length (lane_list (wiring_of v) given (execution_in stand) lane)
  pub shown : MayShow (is_open_in (wiring_of v) given (execution_in stand) lane) window
  pub fresh : OthersAreOpen (is_open_in (wiring_of v) given (execution_in stand) lane) stale window.places

-- it shows the open indexes of the lane, of whatever data and steps the books stand for
abbrev pub LooksAt : View → Books → Lane → Looked → Type 0
LooksAt v b lane window = (given : Data) (steps : List Step) (stand : BooksStand v given steps b) → IsWindow (is_open_in (wiring_of v) given (execution_in stand) lane) (length (lane_list (wiring_of v) given (execution_in stand) lane)) window

-- a taker can take, of whatever data and steps the books stand for
abbrev pub TellsTake : View → Books → Taker → Bool → Type 0
TellsTake v b taker answer = IsRead v b (λ given x. can_take x taker) answer
