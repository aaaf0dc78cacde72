-- What changes where a replica takes an entry of a log, or an instance forgets.
use Rattle.std.specs.Prelude.{◌≡◌, ◌+◌, ◌<◌, ◌^◌, ◌&&◌, ℕ, nat_lt, Bool, Some, Option, List, [], ◌∷◌, length, slice_get, slice_set}
use Rattle.blz_value.specs.Record.{Row as Record}
use Rattle.topo_forms.specs.View.{View, replicas_of, is_order}
use Rattle.inbox.specs.Inbox.{HasHeard, IsFrom, feeds_in}
use Rattle.inbox.specs.Instances.{Instance}
use Rattle.blz_pool.specs.Entries.{EntryId, entry_with_id}
use Rattle.messages.specs.Log.{is_same_entry_id}
use Rattle.messages.specs.Messages.{Batch, with_new}
use Rattle.bloom_eval.specs.Arrivals.{timestep_of}
use Rattle.inbox.specs.Timesteps.{SetOff}
use Rattle.inbox.specs.declared.inbox.Inbox.{Inbox}
use Rattle.messages.specs.declared.message.Message.{Message as IdMessage}
use Rattle.messages.specs.declared.message.Message.TheVariants.{Row, Seal}
use Rattle.messages.specs.Lists.{list_at}
use Rattle.sched_net.specs.declared.books.Books.{Books}
use Rattle.sched_net.specs.declared.seated.Ear.{Ear}
use Rattle.sched_net.specs.declared.seated.Ear.TheVariants.{Hears, Takes}
use Rattle.sched_net.specs.declared.seated.Seated.{Seated}

-- the instance is there and takes from a log
abbrev pub takes_itself : View → (component replica : ℕ) → Bool
takes_itself v c r = nat_lt c (length v.components) && (nat_lt r (replicas_of v c) && is_order v c)

-- how many entries an instance took in this life; none where it hears
abbrev pub taken_in : Ear → ℕ
taken_in (Hears inbox known) = 0
taken_in (Takes taken) = taken

-- the entry that the instance at a place takes next
abbrev pub IsNext : Books → (component place : ℕ) → Option EntryId → Type 0
IsNext b c place entry = (seat : Seated) → slice_get b.seats.items place ≡ Some seat → entry ≡ slice_get (list_at b.logs.items c) (taken_in seat.ear)

-- what an entry sets off at a component with so many ports
abbrev pub entry_sets_off : List Record → (ports : ℕ) → EntryId → SetOff
entry_sets_off records ports entry = record { steps = timestep_of ports (entry_with_id records entry ∷ []) ∷ []; whole = [] }

-- the instance at a place has this ear, and all others stay
pub record EarChanges (place : ℕ) (ear : Ear → Ear) (old new : List Seated) : Type 0 where
  pub seat : Seated
  pub changed : new ≡ slice_set old place seat
  pub is : (was : Seated) → slice_get old place ≡ Some was → seat ≡ record { outlets = was.outlets; feeds = was.feeds; ear = ear was.ear }

-- an entry more is taken
abbrev pub took_one : Ear → Ear
took_one ear = Takes (taken_in ear + 1)

-- the instance at a place took so few that one more can be counted
abbrev pub HasTakenFew : (place : ℕ) → List Seated → Type 0
HasTakenFew place seats = (seat : Seated) → slice_get seats place ≡ Some seat → taken_in seat.ear + 1 < 2 ^ 64

-- ---- logs

-- the component is there and is Order
abbrev pub has_log : View → (component : ℕ) → Bool
has_log v c = nat_lt c (length v.components) && is_order v c

-- a log that got a message: a record as an entry, unless it stands there; a seal changes nothing
abbrev pub log_with : (port : ℕ) → IdMessage → List EntryId → List EntryId
log_with port (Row id) log = with_new is_same_entry_id log (port, id)
log_with port (Seal key count) log = log

-- one of the logs did
abbrev pub LogGets : (component port : ℕ) → IdMessage → (old new : List (List EntryId)) → Type 0
LogGets c port message old new = new ≡ slice_set old c (log_with port message (list_at old c))

-- ---- what forgets

-- an inbox begins anew
pub record InboxForgets (old new : Inbox) : Type 0 where
  pub heard : (i : Instance) (records other : List Record) (batches : List Batch) → HasHeard i records batches old → HasHeard i other [] new
  pub feeds : feeds_in new ≡ feeds_in old
  pub kept : (records : List Record) → IsFrom records new

abbrev pub EarForgets : (old new : Ear) → Type 0
EarForgets (Hears inbox known) (Hears next later) = InboxForgets inbox next × (later ≡ [])
EarForgets (Hears inbox known) (Takes taken) = ⊥
EarForgets (Takes taken) (Hears inbox known) = ⊥
EarForgets (Takes taken) (Takes later) = later ≡ 0

-- the instance at a place begins a life, and all others stay
pub record OneForgets (place : ℕ) (old new : List Seated) : Type 0 where
  pub seat : Seated
  pub changed : new ≡ slice_set old place seat
  pub outlets : (was : Seated) → slice_get old place ≡ Some was → seat.outlets ≡ was.outlets
  pub feeds : (was : Seated) → slice_get old place ≡ Some was → seat.feeds ≡ was.feeds
  pub ear : (was : Seated) → slice_get old place ≡ Some was → EarForgets was.ear seat.ear
