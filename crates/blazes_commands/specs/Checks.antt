-- The checks, each a script of its own that knows no other.
use Rattle.std.specs.Prelude.{ℕ, ◌+◌, List, Option, Some, None, Result, Ok, Err}
use Rattle.inbox.specs.Events.{Event}
use Rattle.inbox.specs.Wiring.{wiring_of}
use Rattle.sched_run.specs.Made.{event_limit, made_of}
use Rattle.sched_net.specs.declared.fault.MakeFault.{MakeFault}
use Rattle.sched_net.specs.declared.fault.MakeFault.TheVariants as make_faults
use Rattle.topo_forms.specs.Data.{Data}
use Rattle.topo_forms.specs.View.{View}
use Rattle.report_lines.specs.declared.refusal.Refusal.{Refusal}
use Rattle.report_lines.specs.declared.refusal.Refusal.TheVariants as refusal
use Rattle.report_lines.specs.declared.refusal.MakeKind.TheVariants as make_kinds
use Rattle.command_checks.specs.FileChecks.{line_of}
use Rattle.command_checks.specs.Script.{Bytes, Script}
pub use Rattle.command_checks.specs.FileChecks.{checked, schedule_file}
pub use Rattle.command_checks.specs.Checks.{with_modules, valid_topology, data_file}
pub use Rattle.blazes_commands.specs.Labels.Shards.{sharding}
pub use Rattle.blazes_commands.specs.Runs.Checks.{opened, opening, execution, restarted, steps_file}

-- ---- a schedule that is made

-- the number of the first event past the limit
abbrev pub first_too_many : ℕ
first_too_many = event_limit + 1

-- the refusal of the first event that can't be made
abbrev pub make_refusal : MakeFault → Option Refusal
make_refusal make_faults.TooManyEvents = Some (refusal.Make first_too_many make_kinds.TooManyEvents)
make_refusal (make_faults.TooManyRows event) = Some (refusal.Make event make_kinds.TooManyRows)
make_refusal (make_faults.TooManyMessages event) = Some (refusal.Make event make_kinds.TooManyMessages)
make_refusal make_faults.NoMemory = None

abbrev pub made : Result (List Event) MakeFault → Result (List Event) Bytes
made (Ok events) = Ok events
made (Err fault) = Err (line_of (make_refusal fault))

-- the events that are chosen under a seed, until nothing is left
abbrev pub making : View → Data → (seed : ℕ) → Script (List Event)
making v given seed = checked (made (made_of (wiring_of v) given seed))
