-- A runner keeps tables, lists and counters in place of a history, and stands for it.
use Rattle.std.specs.Prelude.{◌≡◌, ℕ, Ok, true, List}
use Rattle.topo_forms.specs.Data.{Data}
use Rattle.messages.specs.Messages.{Batch, Entry}
use Rattle.inbox.specs.Instances.{Instance}
use Rattle.inbox.specs.Emission.{Kept}
use Rattle.inbox.specs.Lives.{Lives, kept_after}
use Rattle.inbox.specs.Wiring.{Wiring, instance_at, is_there}
use Rattle.inbox.specs.Executions.{Execution, execution_of}
use Rattle.inbox.specs.Events.{Step}

-- what is kept of an instance: its tables and its emitted lists, the batches for which its inbox stands, and how many entries it took in its last life
pub record Seat : Type 0 where
  pub kept : Kept
  pub heard : List Batch
  pub taken : ℕ

-- it stands for lives, where the component has this log
pub record SeatStandsFor (i : Instance) (log : List Entry) (lives : Lives) (seat : Seat) : Type 0 where
  pub kept : seat.kept ≡ kept_after i log lives
  pub heard : seat.heard ≡ lives.last.heard
  pub taken : seat.taken ≡ lives.last.taken

-- what is kept of a topology: a seat of each instance, and the log of each component
pub record Seats : Type 0 where
  pub seats : (component replica : ℕ) → Seat
  pub logs : (component : ℕ) → List Entry

-- it stands for an execution
pub record SeatsStandFor (w : Wiring) (x : Execution) (net : Seats) : Type 0 where
  pub seats : (component replica : ℕ) → is_there w component replica ≡ true → SeatStandsFor (instance_at w component replica) (x.logs component) (x.lives component replica) (net.seats component replica)
  pub logs : (component : ℕ) → net.logs component ≡ x.logs component

-- and so for the steps that lead to it
pub record StandsFor (w : Wiring) (given : Data) (steps : List Step) (net : Seats) : Type 0 where
  pub execution : Execution
  pub run : execution_of w given steps ≡ Ok execution
  pub stands : SeatsStandFor w execution net
