-- Copies that are refused are refused with their line, and the command replies as its checks say.
use Rattle.std.proofs.Common.{◌≡◌, ◌∙◌, ℤ, List, Some, Result, Ok, Err, sym, ap, subst}
use Rattle.std.specs.Result.{IsErrAnd}
use Rattle.report_lines.specs.declared.refusal.Refusal.TheVariants as refusal
use Rattle.report_lines.specs.declared.refusal.ShardKind.{ShardKind}
use Rattle.report_lines.specs.declared.refusal.ShardKind.TheVariants as kinds
use Rattle.report_lines.specs.Refusals.{refusal_line}
use Rattle.bloom_forms.specs.Form.{Accepted}
use Rattle.bloom_forms.specs.Query.{Name}
use Rattle.shard_route.specs.Sharding.{Answers}
use Rattle.shard_route.specs.Sharding as sharding
use Rattle.topo_forms.specs.declared.topology.Topology.{Topology}
use Rattle.shard_route.specs.declared.fault.ShardFault.{ShardFault}
use Rattle.shard_route.specs.declared.fault.ShardFault.TheVariants as faults
use Rattle.shard_route.specs.declared.sharded.Sharded.{Sharded}
use Rattle.blazes_words.specs.Words.{ShardWords}
use Rattle.command_checks.specs.Ends.{Source, FilesStates, files_states, Came}
use Rattle.command_checks.specs.Ran.{Gives, IsStopAt, Stopped}
use Rattle.command_checks.specs.Script.{Script}
use Rattle.command_checks.specs.Script.Ending.{gave}
use Rattle.command_checks.specs.declared.reply.Reply.{Reply}
use Rattle.command_checks.specs.declared.stop.Stop.{Stop}
use Rattle.command_checks.proofs.RefusedLemmas.{memory_gives, refused_gives}
use Rattle.command_checks.proofs.ScriptLemmas.{came_checked, came_then, gives_ran, stop_then, then_stop}
use Rattle.command_checks.specs.Checks as check
use Rattle.blazes_commands.specs.Labels.Answers.{HasShards}
use Rattle.blazes_commands.specs.Labels.Replies.{RepliesOf}
use Rattle.blazes_commands.specs.Labels.Shards as shards
use Rattle.blazes_commands.proofs.Labels.RepliesLemmas.{stop_replied}

-- ---- the copies

module _ (given : Result Sharded ShardFault) (stop : Stop) where
  refused_for : (kind : ShardKind) → shards.copies_in given ≡ Err (refusal_line (refusal.Shard kind)) → IsStopAt (Some (refusal.Shard kind)) stop → Gives (λ (copies : Sharded). copies) (Err stop) (shards.copies_in given)
  refused_for kind is said = refused_gives (λ (copies : Sharded). copies) (shards.copies_in given) (refusal.Shard kind) stop is said

  pub copies_refused : (fault : ShardFault) → Answers given (Err fault) → IsStopAt (shards.shard_refusal fault) stop → Gives (λ (copies : Sharded). copies) (Err stop) (shards.copies_in given)
  copies_refused faults.NoComponent is said = refused_for kinds.NoComponent (ap shards.copies_in (sym is)) said
  copies_refused faults.NoModule is said = refused_for kinds.NoModule (ap shards.copies_in (sym is)) said
  copies_refused faults.InCycle is said = refused_for kinds.InCycle (ap shards.copies_in (sym is)) said
  copies_refused faults.NoColumn is said = refused_for kinds.NoColumn (ap shards.copies_in (sym is)) said
  copies_refused faults.NotInGate is said = refused_for kinds.NotInGate (ap shards.copies_in (sym is)) said
  copies_refused faults.TooDeep is said = refused_for kinds.TooDeep (ap shards.copies_in (sym is)) said
  copies_refused faults.Names is said = refused_for kinds.Names (ap shards.copies_in (sym is)) said
  copies_refused (faults.Topology fault) is said = refused_gives (λ (copies : Sharded). copies) (shards.copies_in given) (refusal.Topology fault) stop (ap shards.copies_in (sym is)) said
  copies_refused faults.NoMemory is said = memory_gives (λ (copies : Sharded). copies) (shards.copies_in given) stop said

-- what is asked of a topology with its modules, by equal words
asked_alike : (found : check.WithModules) (words : ShardWords) (t : Topology) (modules : List Accepted) (component column : Name) (bounds : List ℤ)
    → t ≡ found.valid.topology → modules ≡ found.modules → component ≡ words.component → column ≡ words.column → bounds ≡ words.bounds
    → sharding.sharded t modules (record { component = component; column = column; bounds = bounds }) ≡ shards.copies_of found words
asked_alike found words t modules component column bounds same_topology same_modules same_component same_column same_bounds =
    ap (λ (s : Topology). sharding.sharded s modules (record { component = component; column = column; bounds = bounds })) same_topology
    ∙ ap (λ (list : List Accepted). sharding.sharded found.valid.topology list (record { component = component; column = column; bounds = bounds })) same_modules
    ∙ ap (λ (name : Name). sharding.sharded found.valid.topology found.modules (record { component = name; column = column; bounds = bounds })) same_component
    ∙ ap (λ (name : Name). sharding.sharded found.valid.topology found.modules (record { component = words.component; column = name; bounds = bounds })) same_column
    ∙ ap (λ (list : List ℤ). sharding.sharded found.valid.topology found.modules (record { component = words.component; column = words.column; bounds = list })) same_bounds

pub copies_answer : (found : check.WithModules) (words : ShardWords) (t : Topology) (modules : List Accepted) (component column : Name) (bounds : List ℤ) (result : Result Sharded ShardFault)
    → t ≡ found.valid.topology → modules ≡ found.modules → component ≡ words.component → column ≡ words.column → bounds ≡ words.bounds
    → Answers (sharding.sharded t modules (record { component = component; column = column; bounds = bounds })) result → Answers (shards.copies_of found words) result
copies_answer found words t modules component column bounds result same_topology same_modules same_component same_column same_bounds is =
    subst (λ (given : Result Sharded ShardFault). Answers given result) (asked_alike found words t modules component column bounds same_topology same_modules same_component same_column same_bounds) is

-- ---- the command

-- what follows on the topology with its modules
abbrev from_modules : ShardWords → check.WithModules → Script Sharded
from_modules asked found = shards.sharding found asked

module _ (asked : ShardWords) (result : Result Reply Stop) where
  pub topology_stops : (files : FilesStates) (stop : Stop) → IsErrAnd result (λ given. given ≡ stop) → Stopped files stop (check.with_modules asked.topology)
      → RepliesOf HasShards files result (shards.shards asked)
  topology_stops files stop is stopped =
      stop_replied HasShards files (shards.shards asked) result stop is
      (stop_then files stop (check.with_modules asked.topology) (from_modules asked) stopped)

  pub copies_stop : (a b : Source) (found : check.WithModules) (stop : Stop) → IsErrAnd result (λ given. given ≡ stop) → Came (files_states a b) (check.with_modules asked.topology) (gave found)
      → Gives (λ (copies : Sharded). copies) (Err stop) (shards.copies_in (shards.copies_of found asked)) → RepliesOf HasShards (files_states a b) result (shards.shards asked)
  copies_stop a b found stop is came given =
      stop_replied HasShards (files_states a b) (shards.shards asked) result stop is
      (then_stop a b b (check.with_modules asked.topology) (from_modules asked) found stop came
      (gives_ran (λ (copies : Sharded). copies) b (Err stop) (shards.copies_in (shards.copies_of found asked)) given))

pub copies_come : (asked : ShardWords) (a b : Source) (found : check.WithModules) (copies : Sharded) → Came (files_states a b) (check.with_modules asked.topology) (gave found)
    → shards.copies_in (shards.copies_of found asked) ≡ Ok copies → Came (files_states a b) (shards.shards asked) (gave copies)
copies_come asked a b found copies came given =
    came_then a b b (check.with_modules asked.topology) (from_modules asked) found (gave copies) came
    (came_checked b (shards.copies_in (shards.copies_of found asked)) copies given)
