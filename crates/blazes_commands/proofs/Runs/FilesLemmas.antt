-- A command over a topology and its data stops where one of their files does, and else goes on with both.
use Rattle.std.proofs.Common.{◌≡◌, Result}
use Rattle.std.specs.Result.{IsErrAnd}
use Rattle.topo_forms.specs.Data.{Data}
use Rattle.topo_forms.specs.Valid.{Validated}
use Rattle.command_checks.specs.Checks as check
use Rattle.command_checks.specs.Ends.{Source, FilesStates, files_states, Came}
use Rattle.command_checks.specs.Ran.{Stopped}
use Rattle.command_checks.specs.Reply.{Answer}
use Rattle.command_checks.specs.Script.{Bytes, Script, ◌>>=◌}
use Rattle.command_checks.specs.Script.Ending.{gave}
use Rattle.command_checks.specs.declared.reply.Reply.{Reply}
use Rattle.command_checks.specs.declared.stop.Stop.{Stop}
use Rattle.blazes_commands.specs.Runs.Bench.{BenchStates}
use Rattle.blazes_commands.specs.Runs.Replies.{RepliesWith}
use Rattle.blazes_commands.proofs.Runs.RepliesLemmas.{stop_replies, then_replies}

module _ {A : Type 0} (Said : A → BenchStates → Answer → Type 0) (bench : BenchStates) (topology data_name : Bytes) (next : Validated → Data → Script A) (result : Result Reply Stop) where
  -- what follows on the topology
  abbrev on_topology : Validated → Script A
  on_topology seen = check.data_file seen data_name >>= next seen

  abbrev over_files : Script A
  over_files = check.valid_topology topology >>= on_topology

  pub topology_stops : (files : FilesStates) (stop : Stop) → IsErrAnd result (λ given. given ≡ stop) → Stopped files stop (check.valid_topology topology) → RepliesWith Said files bench result over_files
  topology_stops files stop is stopped = stop_replies Said files bench (check.valid_topology topology) on_topology result stop is stopped

  pub data_stops : (a b c : Source) (seen : Validated) (stop : Stop) → IsErrAnd result (λ given. given ≡ stop) → Came (files_states a b) (check.valid_topology topology) (gave seen)
      → Stopped (files_states b c) stop (check.data_file seen data_name) → RepliesWith Said (files_states a c) bench result over_files
  data_stops a b c seen stop is first stopped =
      then_replies Said a b c bench (check.valid_topology topology) on_topology seen result first
      (stop_replies Said (files_states b c) bench (check.data_file seen data_name) (next seen) result stop is stopped)

  pub files_then : (a b c d : Source) (seen : Validated) (given : Data) → Came (files_states a b) (check.valid_topology topology) (gave seen) → Came (files_states b c) (check.data_file seen data_name) (gave given)
      → RepliesWith Said (files_states c d) bench result (next seen given) → RepliesWith Said (files_states a d) bench result over_files
  files_then a b c d seen given first second replies =
      then_replies Said a b d bench (check.valid_topology topology) on_topology seen result first
      (then_replies Said b c d bench (check.data_file seen data_name) (next seen) given result second replies)
