-- The open works of a net, and where each stands.
use Rattle.std.specs.Prelude.{◌≡◌, ◌≢◌, ◌<◌, ◌≤◌, ◌+◌, ◌^◌, ◌++◌, ℕ, Bool, true, false, if◌then◌else◌, Some, List, [], map, length, slice_get, slice_index_or, slice_set}
use Rattle.std.specs.List.{All}
use Rattle.blz_value.specs.Members.{Has}
use Rattle.topo_forms.specs.Data.{Data}
use Rattle.topo_forms.specs.View.{View}
use Rattle.inbox.specs.Events.{Event, Step, take_one}
use Rattle.inbox.specs.Executions.{Execution}
use Rattle.inbox.specs.Wiring.{Wiring, wiring_of}
use Rattle.sched_turns.specs.Windows.{Looked, IsWindow}
use Rattle.sched_net.specs.Net.{BooksStand, execution_in}
use Rattle.sched_net.specs.declared.books.Books.{Books}
use Rattle.sched_run.specs.Made.{event_in, is_open_in, lane_list, all_lanes, all_takers, can_take, open_works}
use Rattle.sched_run.specs.Code.Looking.{IsLane, IsTaker, MayLook, LooksAt}
use Rattle.sched_run.specs.Code.Stale.{stale_on}
use Rattle.sched_run.specs.declared.lanes.Lane.{Lane}
use Rattle.sched_run.specs.declared.lanes.Taker.{Taker}
use Rattle.sched_run.specs.declared.works.Work.{Work}
use Rattle.sched_run.specs.declared.works.Work.TheVariants.{Message, Take}
use Rattle.sched_run.specs.declared.works.Works.{Works}

-- ---- one work

-- it is a take
abbrev pub is_taking : Work → Bool
is_taking (Message lane index) = false
is_taking (Take taker) = true

-- its event
abbrev pub work_event : Work → Event
work_event (Message lane index) = event_in lane index
work_event (Take taker) = take_one taker.component taker.replica

-- its parts have names in a topology
abbrev pub HasNames : View → Work → Type 0
HasNames v (Message lane index) = IsLane v lane
HasNames v (Take taker) = IsTaker v taker

-- ---- all works

-- lanes and takers are those of the topology, with a window on each lane
pub record AreWorksOf (v : View) (k : Works) : Type 0 where
  pub lanes_are : k.lanes.items ≡ all_lanes (wiring_of v)
  pub takers_are : k.takers.items ≡ all_takers (wiring_of v)
  pub many : length k.windows.items ≡ length k.lanes.items
  pub as_many : length k.sizes ≡ length k.lanes.items + length k.takers.items
  pub few : length k.sizes < 2 ^ 32
  pub small : All (λ size. size ≤ 8) k.sizes

-- the window on a lane
abbrev pub window_at : Works → (place : ℕ) → Looked
window_at k place = slice_index_or k.windows.items place (record { places = []; next = 0 })

-- how many works stand at each place
abbrev pub sizes_shown : Execution → Works → List ℕ
sizes_shown x k = map (λ window. length window.places) k.windows.items ++ map (λ taker. if can_take x taker then 1 else 0) k.takers.items

-- each window shows the open indexes of its lane, and the sizes are those of the windows and of what can be taken
pub record ShowWorks (w : Wiring) (given : Data) (x : Execution) (k : Works) : Type 0 where
  pub windows : (place : ℕ) (lane : Lane) → slice_get k.lanes.items place ≡ Some lane → IsWindow (is_open_in w given x lane) (length (lane_list w given x lane)) (window_at k place)
  pub sizes : k.sizes ≡ sizes_shown x k

-- windows on lanes show what is open, of whatever data and steps the books stand for
abbrev pub AreWindowsOn : View → Books → List Lane → List Looked → Type 0
AreWindowsOn v b on windows = (length windows ≡ length on) × ((place : ℕ) (lane : Lane) → slice_get on place ≡ Some lane → LooksAt v b lane (slice_index_or windows place (record { places = []; next = 0 })))

-- so it is of whatever data and steps the books stand for
abbrev pub AreShown : View → Books → Works → Type 0
AreShown v b k = (given : Data) (steps : List Step) (stand : BooksStand v given steps b) → ShowWorks (wiring_of v) given (execution_in stand) k

-- a work stands at a place: the lanes stand before the takers
abbrev pub StandsThere : Works → (place : ℕ) → Work → Type 0
StandsThere k place (Message lane index) = slice_get k.lanes.items place ≡ Some lane
StandsThere k place (Take taker) = (number : ℕ) × (place ≡ length k.lanes.items + number) × (slice_get k.takers.items number ≡ Some taker)

-- it is the open work with this number, of whatever data and steps the books stand for
abbrev pub IsOpenWork : View → Books → (number : ℕ) → Work → Type 0
IsOpenWork v b number work = (given : Data) (steps : List Step) (stand : BooksStand v given steps b) → slice_get (open_works (wiring_of v) given (execution_in stand)) number ≡ Some (work_event work)

-- a taker's works, one or none, behind some sizes, of whatever data and steps the books stand for
abbrev pub AreSizesWith : View → Books → (before : List ℕ) → List Taker → (sizes : List ℕ) → Type 0
AreSizesWith v b before who sizes = (given : Data) (steps : List Step) (stand : BooksStand v given steps b) → sizes ≡ before ++ map (λ taker. if can_take (execution_in stand) taker then 1 else 0) who

-- ---- looking again

-- the lane at a place may be looked at again after a work
abbrev pub MayLookAt : View → Books → Works → Work → (place : ℕ) → Type 0
MayLookAt v b k work place = (lane : Lane) → slice_get k.lanes.items place ≡ Some lane → MayLook v b lane (stale_on work lane) (window_at k place)

-- one place was looked at, where so many works stand, and all others stayed; the size isn't kept yet
pub record LooksAgain (v : View) (b : Books) (old new : Works) (place count : ℕ) : Type 0 where
  pub lanes_stay : new.lanes ≡ old.lanes
  pub takers_stay : new.takers ≡ old.takers
  pub sizes_stay : new.sizes ≡ old.sizes
  pub as_many : length new.windows.items ≡ length old.windows.items
  pub others : (other : ℕ) → other ≢ place → window_at new other ≡ window_at old other
  pub window : (lane : Lane) → slice_get new.lanes.items place ≡ Some lane → LooksAt v b lane (window_at new place)
  pub size : (given : Data) (steps : List Step) (stand : BooksStand v given steps b) → count ≡ slice_index_or (sizes_shown (execution_in stand) new) place 0
  pub small : count ≤ 8

-- and then it is kept
pub record LookedAt (v : View) (b : Books) (old new : Works) (place : ℕ) : Type 0 where
  pub lanes_stay : new.lanes ≡ old.lanes
  pub takers_stay : new.takers ≡ old.takers
  pub others : (other : ℕ) → other ≢ place → window_at new other ≡ window_at old other
  pub window : (lane : Lane) → slice_get new.lanes.items place ≡ Some lane → LooksAt v b lane (window_at new place)
  pub size : (given : Data) (steps : List Step) (stand : BooksStand v given steps b) → new.sizes ≡ slice_set old.sizes place (slice_index_or (sizes_shown (execution_in stand) new) place 0)

-- some places were looked at, and all others stayed
pub record LookedFor (v : View) (b : Books) (old new : Works) (places : List ℕ) : Type 0 where
  pub works : AreWorksOf v new
  pub there : (place : ℕ) → Has place places → place < length new.sizes
  pub lanes_stay : new.lanes ≡ old.lanes
  pub takers_stay : new.takers ≡ old.takers
  pub others : (place : ℕ) → ¬ Has place places → window_at new place ≡ window_at old place
  pub other_sizes : (place : ℕ) → ¬ Has place places → slice_index_or new.sizes place 0 ≡ slice_index_or old.sizes place 0
  pub windows : (place : ℕ) (lane : Lane) → Has place places → slice_get new.lanes.items place ≡ Some lane → LooksAt v b lane (window_at new place)
  pub sizes : (place : ℕ) → Has place places → (given : Data) (steps : List Step) (stand : BooksStand v given steps b) → slice_index_or new.sizes place 0 ≡ slice_index_or (sizes_shown (execution_in stand) new) place 0
