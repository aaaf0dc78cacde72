-- A history is what legal steps reach, and what comes to a port was sent there by a stream.
use Rattle.std.specs.Prelude.{ℕ, ◌≡◌, ◌<◌, IsTrue, Ok, List, length}
use Rattle.blz_value.specs.Members.{Has}
use Rattle.blz_value.specs.Record.{Row}
use Rattle.bloom_forms.specs.Step.{Sets, set_at}
use Rattle.topo_forms.specs.Data.{Data, IsData}
use Rattle.topo_forms.specs.Messages.{row}
use Rattle.topo_forms.specs.Valid.{IsValid}
use Rattle.topo_forms.specs.View.{View, stream_replicas, goes_to}
use Rattle.inbox.specs.Wiring.{wiring_of}
use Rattle.inbox.specs.Executions.{Execution, emitted_list, execution_of}
use Rattle.inbox.specs.Events.{Step}

-- legal steps of a valid topology over its data reach this execution
pub record IsHistory (v : View) (d : Data) (x : Execution) : Type 0 where
  pub valid : IsValid v
  pub fits : IsData v d
  pub steps : List Step
  pub legal : execution_of (wiring_of v) d steps ≡ Ok x

-- ---- records that come to a port

-- a sending replica of a stream into the port has emitted the record
pub record IsSentTo (v : View) (d : Data) (x : Execution) (component port : ℕ) (r : Row) : Type 0 where
  pub stream : ℕ
  pub sender : ℕ
  pub within : stream < length v.streams
  pub goes : IsTrue (goes_to v component port stream)
  pub sends : sender < stream_replicas v stream
  pub sent : Has (row r) (emitted_list (wiring_of v) d x stream sender)

-- each record of some timesteps was sent to its port
abbrev pub AreSent : View → Data → Execution → (component : ℕ) → List Sets → Type 0
AreSent v d x c nows = (now : Sets) (port : ℕ) (r : Row) → Has now nows → Has r (set_at now port) → IsSentTo v d x c port r
