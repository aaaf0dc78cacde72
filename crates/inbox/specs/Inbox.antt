-- An inbox stands for the batches that its instance heard.
use Rattle.std.specs.Prelude.{◌≡◌, ◌<◌, ℕ, true, false, not, Bool, List, length}
use Rattle.blz_value.specs.Members.{Has}
use Rattle.blz_value.specs.Record.{Row}
use Rattle.topo_forms.specs.View.{is_order_mode}
use Rattle.messages.specs.Messages.{Pair, Batch, Entry, all_pairs}
use Rattle.inbox.specs.Instances.{Instance, entries_of}
use Rattle.inbox.specs.Timesteps.{is_due}
use Rattle.messages.specs.Log.{AreGiven}
use Rattle.messages.specs.Whole.{feeds_view}
use Rattle.messages.specs.Feeds.{feed_count}
use Rattle.inbox.specs.Code.Heard.{FeedsHeard, WaitingHeard, IsIdle, is_sealing}
use Rattle.inbox.specs.declared.inbox.Inbox.{Inbox}

-- an instance's inbox stands for what was heard, with the ids read in a pool with these records, where the records at which the test holds wait
pub record Keeps (i : Instance) (records : List Row) (waits : Entry → Bool) (heard : List Pair) (x : Inbox) : Type 0 where
  pub mode : x.sealing ≡ is_sealing i.mode
  pub hears : is_order_mode i.mode ≡ false
  pub come : (entry : Entry) → Has entry (entries_of i heard) → entry.0 < length i.ports
  pub feeds : FeedsHeard i records heard (feeds_view x.feeds)
  pub waiting : x.sealing ≡ true → WaitingHeard i records waits heard x.waiting
  pub idle : x.sealing ≡ false → IsIdle x.waiting

-- and for batches, where exactly those records wait that aren't due
abbrev pub HasHeard : Instance → List Row → List Batch → Inbox → Type 0
HasHeard i records batches x = Keeps i records (λ entry. not (is_due i (all_pairs batches) entry)) (all_pairs batches) x

-- how many feeds the instance has
abbrev pub feeds_in : Inbox → ℕ
feeds_in x = feed_count (feeds_view x.feeds)

-- the pool gave each id that the inbox keeps
abbrev pub IsFrom : List Row → Inbox → Type 0
IsFrom records x = AreGiven records x.waiting.log
