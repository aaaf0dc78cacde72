-- Where a work may change what is open: at its own place, where what its instance sends comes in, and at the port of its log.
use Rattle.std.specs.Prelude.{◌≡◌, ◌<◌, ◌+◌, ◌*◌, ◌==◌, ◌&&◌, ◌||◌, ℕ, Bool, false, Option, None, Some, List, [], length, slice_get, slice_index_or}
use Rattle.blz_value.specs.Members.{Has}
use Rattle.topo_forms.specs.Data.{Data}
use Rattle.topo_forms.specs.Feeds.{Feed}
use Rattle.topo_forms.specs.View.{View, End, origin_of}
use Rattle.inbox.specs.Events.{Step}
use Rattle.inbox.specs.Places.{instance_place, instance_count}
use Rattle.sched_net.specs.Net.{BooksStand, execution_in}
use Rattle.sched_net.specs.declared.books.Books.{Books}
use Rattle.sched_run.specs.Made.{lane_feed}
use Rattle.sched_run.specs.Code.Looking.{LooksAt}
use Rattle.sched_run.specs.Code.Stale.{is_same_feed}
use Rattle.sched_run.specs.Code.Works.{sizes_shown, window_at}
use Rattle.sched_run.specs.declared.lanes.Lane.{Lane}
use Rattle.sched_run.specs.declared.lanes.Lane.TheVariants.{Deliver, Order}
use Rattle.sched_run.specs.declared.lanes.Taker.{Taker}
use Rattle.sched_run.specs.declared.tables.Tables.{Tables}
use Rattle.sched_run.specs.declared.watch.Watch.{Watch}
use Rattle.sched_run.specs.declared.works.Work.{Work}
use Rattle.sched_run.specs.declared.works.Work.TheVariants.{Message, Take}
use Rattle.sched_run.specs.declared.works.Works.{Works}

-- ---- what a work changes

-- a stream is that of an output of a component
abbrev pub comes_from : (component : ℕ) → Option End → Bool
comes_from component None = false
comes_from component (Some spot) = spot.0 == component

-- a replica of a component sends on a feed
abbrev pub sends : View → (component replica : ℕ) → Feed → Bool
sends v component replica feed = comes_from component (origin_of v feed.stream) && feed.sender == replica

-- a lane is that of an instance on a feed
abbrev pub is_heard_on : (component replica : ℕ) → Feed → Lane → Bool
is_heard_on component replica feed (Deliver c r n other) = (c == component && r == replica) && is_same_feed other feed
is_heard_on component replica feed (Order c other) = false

-- a lane is one of the log of a component at a port
abbrev pub is_at_log : (component port : ℕ) → Lane → Bool
is_at_log component port (Deliver c r n other) = false
is_at_log component port (Order c other) = c == component && other.port == port

-- what is open on a lane may change by a work: a log that gets an entry has no other entry at another port, and one from which is taken stays as it is
abbrev pub touches : View → Work → Lane → Bool
touches v (Message (Deliver c r n feed) index) lane = is_heard_on c r feed lane || sends v c r (lane_feed lane)
touches v (Message (Order c feed) index) lane = is_at_log c feed.port lane
touches v (Take taker) lane = sends v taker.component taker.replica (lane_feed lane)

-- whether a taker can take may change
abbrev pub touches_taker : Work → Taker → Bool
touches_taker (Message (Deliver c r n feed) index) taker = false
touches_taker (Message (Order c feed) index) taker = taker.component == c
touches_taker (Take done) taker = taker.component == done.component

-- what stands at a place isn't changed by a work
pub record IsUntouched (v : View) (k : Works) (work : Work) (place : ℕ) : Type 0 where
  pub there : place < length k.sizes
  pub lane : (lane : Lane) → slice_get k.lanes.items place ≡ Some lane → touches v work lane ≡ false
  pub taker : (number : ℕ) (taker : Taker) → place ≡ length k.lanes.items + number → slice_get k.takers.items number ≡ Some taker → touches_taker work taker ≡ false

-- what is open at a place is still shown
pub record StillShows (v : View) (b : Books) (k : Works) (place : ℕ) : Type 0 where
  pub window : (lane : Lane) → slice_get k.lanes.items place ≡ Some lane → LooksAt v b lane (window_at k place)
  pub size : (given : Data) (steps : List Step) (stand : BooksStand v given steps b) → slice_index_or k.sizes place 0 ≡ slice_index_or (sizes_shown (execution_in stand) k) place 0

-- ---- where it changes that

-- each list of some has places below this
abbrev pub AreBelow : (most : ℕ) → List (List ℕ) → Type 0
AreBelow most groups = (number place : ℕ) → Has place (slice_index_or groups number []) → place < most

-- the list of an instance and a stream
abbrev pub heard_at : List (List (List ℕ)) → (instance stream : ℕ) → List ℕ
heard_at heard instance stream = slice_index_or (slice_index_or heard instance []) stream []

-- there is one for each instance and each stream
pub record HasStreams (v : View) (heard : List (List (List ℕ))) : Type 0 where
  pub instances : length heard ≡ instance_count v
  pub streams : (instance : ℕ) → instance < instance_count v → length (slice_index_or heard instance []) ≡ length v.streams

-- for each instance and each stream the places among so many lanes on which it hears the stream
pub record AreHeardBelow (v : View) (lanes : List Lane) (most : ℕ) (heard : List (List (List ℕ))) : Type 0 where
  pub count : HasStreams v heard
  pub within : (instance stream place : ℕ) → Has place (heard_at heard instance stream) → place < length lanes
  pub each : (place c r n : ℕ) (feed : Feed) → place < most → slice_get lanes place ≡ Some (Deliver c r n feed) → Has place (heard_at heard (instance_place v c r) feed.stream)

abbrev pub AreHeard : View → List Lane → List (List (List ℕ)) → Type 0
AreHeard v lanes heard = AreHeardBelow v lanes (length lanes) heard

-- for each instance the places among so many lanes at which what it sends comes in
pub record AreReadersBelow (v : View) (lanes : List Lane) (most : ℕ) (groups : List (List ℕ)) : Type 0 where
  pub count : length groups ≡ instance_count v
  pub within : AreBelow (length lanes) groups
  pub each : (place : ℕ) (lane : Lane) (spot : End) → place < most → slice_get lanes place ≡ Some lane → origin_of v (lane_feed lane).stream ≡ Some spot → Has place (slice_index_or groups (instance_place v spot.0 (lane_feed lane).sender) [])

abbrev pub AreReaders : View → List Lane → List (List ℕ) → Type 0
AreReaders v lanes groups = AreReadersBelow v lanes (length lanes) groups

-- the number of a port of a component among all, where each component has eight
abbrev pub port_place : (component port : ℕ) → ℕ
port_place component port = component * 8 + port

-- for each component and each port the places among so many lanes of those of its log there
pub record AreLanesBelow (v : View) (lanes : List Lane) (most : ℕ) (groups : List (List ℕ)) : Type 0 where
  pub count : length groups ≡ length v.components * 8
  pub within : AreBelow (length lanes) groups
  pub each : (place c : ℕ) (feed : Feed) → place < most → slice_get lanes place ≡ Some (Order c feed) → Has place (slice_index_or groups (port_place c feed.port) [])

abbrev pub AreLogs : View → List Lane → List (List ℕ) → Type 0
AreLogs v lanes groups = AreLanesBelow v lanes (length lanes) groups

-- for each component the places of those among so many takers that take from its log; takers stand behind lanes
pub record AreTakersBelow (v : View) (before : ℕ) (takers : List Taker) (most : ℕ) (groups : List (List ℕ)) : Type 0 where
  pub count : length groups ≡ length v.components
  pub within : AreBelow (before + most) groups
  pub each : (number : ℕ) (taker : Taker) → number < most → slice_get takers number ≡ Some taker → Has (before + number) (slice_index_or groups taker.component [])

abbrev pub AreTakers : View → (before : ℕ) → List Taker → List (List ℕ) → Type 0
AreTakers v before takers groups = AreTakersBelow v before takers (length takers) groups

-- there is a list for each instance and stream, for each instance, for each port and for each component
pub record HaveCounts (v : View) (tables : Tables) : Type 0 where
  pub heard : HasStreams v tables.heard.items
  pub readers : length tables.readers ≡ instance_count v
  pub logs : length tables.logs ≡ length v.components * 8
  pub takers : length tables.takers ≡ length v.components

-- where each work changes what is open is known
pub record AreTablesOf (v : View) (k : Works) (tables : Tables) : Type 0 where
  pub heard : AreHeard v k.lanes.items tables.heard.items
  pub readers : AreReaders v k.lanes.items tables.readers
  pub logs : AreLogs v k.lanes.items tables.logs
  pub takers : AreTakers v (length k.lanes.items) k.takers.items tables.takers

abbrev pub IsWatched : View → Watch → Type 0
IsWatched v watch = AreTablesOf v watch.works watch.tables

-- the places where a work may close others: the lanes on which its instance hears its stream, those of its log at its port, or the takers from its log
abbrev pub closing_places : View → Tables → Work → List ℕ
closing_places v tables (Message (Deliver c r n feed) index) = heard_at tables.heard.items (instance_place v c r) feed.stream
closing_places v tables (Message (Order c feed) index) = slice_index_or tables.logs (port_place c feed.port) []
closing_places v tables (Take taker) = slice_index_or tables.takers taker.component []

-- the places where it may open others: what its instance sends comes in there, or it is a taker from its log
abbrev pub opening_places : View → Tables → Work → List ℕ
opening_places v tables (Message (Deliver c r n feed) index) = slice_index_or tables.readers (instance_place v c r) []
opening_places v tables (Message (Order c feed) index) = slice_index_or tables.takers c []
opening_places v tables (Take taker) = slice_index_or tables.readers (instance_place v taker.component taker.replica) []
