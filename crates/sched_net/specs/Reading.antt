-- What is read of a net is what the execution has for which its books stand.
use Rattle.std.specs.Prelude.{◌≡◌, ◌<◌, ◌↔◌, ◌==◌, ◌&&◌, ℕ, Bool, true, IsTrue, Some, List, length, take}
use Rattle.std.specs.List.{list_all}
use Rattle.blz_value.specs.Members.{Has}
use Rattle.blz_value.specs.Record.{Row}
use Rattle.blz_pool.specs.Pool.{IsPool}
use Rattle.bloom_forms.specs.declared.program.Program.{Program}
use Rattle.topo_forms.specs.Data.{Data}
use Rattle.topo_forms.specs.Messages.{rows_in}
use Rattle.blz_value.specs.NumberSets.{below}
use Rattle.topo_forms.specs.View.{View, component_numbers, origin_of, program_of, replicas_of, stream_replicas, is_order}
use Rattle.inbox.specs.Completeness.{IsComplete, held_count_at, left_count}
use Rattle.inbox.specs.Events.{Step}
use Rattle.inbox.specs.Executions.{Execution, emitted_list}
use Rattle.inbox.specs.Folds.{fold_rows}
use Rattle.inbox.specs.OrderReplicas.{most_taken}
use Rattle.inbox.specs.Wiring.{wiring_of}
use Rattle.sched_net.specs.Net.{BooksStand, execution_in}
use Rattle.sched_net.specs.declared.books.Books.{Books}

-- an answer is this of the data and the execution, of whatever data and steps the books stand for
abbrev pub IsRead : {X : Type 0} → View → Books → (Data → Execution → X) → X → Type 0
IsRead v b of answer = (given : Data) (steps : List Step) (stand : BooksStand v given steps b) → answer ≡ of given (execution_in stand)

-- ---- records of emitted lists

-- a record stands in the emitted list of some sending replica of a stream
pub record IsEmitted (v : View) (given : Data) (x : Execution) (r : Row) : Type 0 where
  pub stream : ℕ
  pub replica : ℕ
  pub there : stream < length v.streams
  pub sends : replica < stream_replicas v stream
  pub row : Has r (rows_in (emitted_list (wiring_of v) given x stream replica))

-- these are exactly the records of all emitted lists, each once
pub record AreEmitted (v : View) (given : Data) (x : Execution) (records : List Row) : Type 0 where
  pub once : IsPool records
  pub sound : (r : Row) → Has r records → IsEmitted v given x r
  pub whole : (r : Row) → IsEmitted v given x r → Has r records

-- so it is of whatever data and steps the books stand for
abbrev pub ReadEmitted : View → Books → List Row → Type 0
ReadEmitted v b records = (given : Data) (steps : List Step) (stand : BooksStand v given steps b) → AreEmitted v given (execution_in stand) records

-- ---- replicas of Order components

-- a stream is that of an output of an Order component with this program, and this replica sends it
pub record IsOrdered (v : View) (stream replica component output : ℕ) (program : Program) : Type 0 where
  pub there : stream < length v.streams
  pub origin : origin_of v stream ≡ Some (component, output)
  pub order : is_order v component ≡ true
  pub body : program_of v component ≡ Some program
  pub sends : replica < replicas_of v component

-- the rows are what the program gives over a beginning of the log, as far as the longest life of the replica came
abbrev pub ReadInOrder : View → Books → (stream replica : ℕ) → List Row → Type 0
ReadInOrder v b s r rows = (component output : ℕ) (program : Program) → IsOrdered v s r component output program
    → IsRead v b (λ given x. fold_rows program (take (most_taken (x.lives component r)) (x.logs component)) output) rows

-- ---- complete or not

-- no replica of a component holds anything
abbrev pub holds_none_at : View → Execution → (component : ℕ) → Bool
holds_none_at v x c = list_all (λ r. held_count_at (wiring_of v) x c r == 0) (below (replicas_of v c))

-- nor does any instance
abbrev pub holds_none : View → Execution → Bool
holds_none v x = list_all (holds_none_at v x) (component_numbers v)

-- nothing is left, and nothing is held
abbrev pub is_complete : View → Data → Execution → Bool
is_complete v given x = left_count (wiring_of v) given x == 0 && holds_none v x

-- so a test says of whatever data and steps the books stand for
abbrev pub TellsComplete : View → Books → Bool → Type 0
TellsComplete v b test = (given : Data) (steps : List Step) (stand : BooksStand v given steps b) → IsTrue test ↔ IsComplete (wiring_of v) given (execution_in stand)
