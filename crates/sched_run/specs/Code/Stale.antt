-- What a work makes stale on a lane: of the indexes that were open there, those that may not be open any more.
use Rattle.std.specs.Prelude.{ℕ, ◌==◌, ◌&&◌, Bool, if◌then◌else◌}
use Rattle.topo_forms.specs.Feeds.{Feed}
use Rattle.sched_turns.specs.declared.windows.Stale.{Stale}
use Rattle.sched_turns.specs.declared.windows.Stale.TheVariants.{Nothing, Place, Everything}
use Rattle.sched_run.specs.declared.lanes.Lane.{Lane}
use Rattle.sched_run.specs.declared.lanes.Lane.TheVariants.{Deliver, Order}
use Rattle.sched_run.specs.declared.works.Work.{Work}
use Rattle.sched_run.specs.declared.works.Work.TheVariants.{Message, Take}

-- two feeds are of the same stream and sender at the same port
abbrev pub is_same_feed : Feed → Feed → Bool
is_same_feed a b = a.port == b.port && (a.stream == b.stream && a.sender == b.sender)

-- once a message came on a lane: its index on the same feed of the same instance, and every index at the same port of the same log
abbrev pub stale_between : (done : Lane) → (index : ℕ) → (lane : Lane) → Stale
stale_between (Deliver c r n feed) index (Deliver component replica number other) = if (component == c && replica == r) && is_same_feed other feed then Place index else Nothing
stale_between (Deliver c r n feed) index (Order component other) = Nothing
stale_between (Order c feed) index (Deliver component replica number other) = Nothing
stale_between (Order c feed) index (Order component other) = if component == c && other.port == feed.port then Everything else Nothing

-- a take makes nothing stale
abbrev pub stale_on : Work → (lane : Lane) → Stale
stale_on (Message done index) lane = stale_between done index lane
stale_on (Take taker) lane = Nothing
