-- The checks of a component that is split into copies.
use Rattle.std.specs.Prelude.{Option, Some, None, Result, Ok, Err}
use Rattle.report_lines.specs.declared.refusal.Refusal.{Refusal}
use Rattle.report_lines.specs.declared.refusal.Refusal.TheVariants as refusal
use Rattle.report_lines.specs.declared.refusal.ShardKind.TheVariants as shard_kinds
use Rattle.shard_route.specs.Sharding.{sharded}
use Rattle.shard_route.specs.declared.fault.ShardFault.{ShardFault}
use Rattle.shard_route.specs.declared.fault.ShardFault.TheVariants as shard_faults
use Rattle.shard_route.specs.declared.sharded.Sharded.{Sharded}
use Rattle.blazes_words.specs.Words.{ShardWords}
use Rattle.command_checks.specs.FileChecks.{checked, line_of}
use Rattle.command_checks.specs.Script.{Bytes, Script, ◌>>=◌}
use Rattle.command_checks.specs.Checks.{WithModules, with_modules}

-- the refusal of copies
abbrev pub shard_refusal : ShardFault → Option Refusal
shard_refusal shard_faults.NoComponent = Some (refusal.Shard shard_kinds.NoComponent)
shard_refusal shard_faults.NoModule = Some (refusal.Shard shard_kinds.NoModule)
shard_refusal shard_faults.InCycle = Some (refusal.Shard shard_kinds.InCycle)
shard_refusal shard_faults.NoColumn = Some (refusal.Shard shard_kinds.NoColumn)
shard_refusal shard_faults.NotInGate = Some (refusal.Shard shard_kinds.NotInGate)
shard_refusal shard_faults.TooDeep = Some (refusal.Shard shard_kinds.TooDeep)
shard_refusal shard_faults.Names = Some (refusal.Shard shard_kinds.Names)
shard_refusal (shard_faults.Topology fault) = Some (refusal.Topology fault)
shard_refusal shard_faults.NoMemory = None

-- copies in their topology, or the line of what they are refused for
abbrev pub copies_in : Result Sharded ShardFault → Result Sharded Bytes
copies_in (Ok sharded) = Ok sharded
copies_in (Err fault) = Err (line_of (shard_refusal fault))

-- what is asked for of a topology with its modules
abbrev pub copies_of : WithModules → ShardWords → Result Sharded ShardFault
copies_of found words =
    sharded found.valid.topology found.modules (record { component = words.component; column = words.column; bounds = words.bounds })

-- the faults of a splitting, in their order
abbrev pub sharding : WithModules → ShardWords → Script Sharded
sharding found words = checked (copies_in (copies_of found words))

-- a component of a topology in a file is split: its modules, validity, copies
abbrev pub shards : ShardWords → Script Sharded
shards words = do
  found ← with_modules words.topology
  sharding found words
