-- A command that is lost to want of memory says nothing, and else no shell of its bench is lost.
use Rattle.std.proofs.Common.{◌≡◌, List, Result, Ok, Err, sym, subst}
use Rattle.std.specs.List.Sorted.{IsPermutation}
use Rattle.std.specs.Result.{IsErrAnd}
use Rattle.std.proofs.lemmas.List.Sorted.{IsPermutation-trans}
use Rattle.bloom_eval.specs.declared.kind.ProgramKind.{ProgramKind}
use Rattle.command_checks.specs.Ends.{files_states}
use Rattle.command_checks.specs.Ran.{Stopped}
use Rattle.command_checks.specs.Reply.{Answer}
use Rattle.command_checks.specs.Script.{Script}
use Rattle.command_checks.specs.declared.reply.Reply.{Reply}
use Rattle.command_checks.specs.declared.stop.Stop.{Stop}
use Rattle.command_checks.specs.declared.stop.Stop.TheVariants.{Refused, Failed, NoMemory}
use Rattle.blazes_commands.specs.Runs.Bench.{BenchStates}
use Rattle.blazes_commands.specs.Runs.Replies.{KeepsKinds, RepliesAtOnce}
use Rattle.blazes_commands.specs.Finds.Code.Kinds.{LosesNone}

-- ---- want of memory

pub lost_replies : {A : Type 0} (Said : A → BenchStates → Answer → Type 0) (bench : BenchStates) (script : Script A) (result : Result Reply Stop) → IsErrAnd result (λ stop. stop ≡ NoMemory) → RepliesAtOnce Said bench result script
lost_replies Said bench script (Ok reply) is s = absurd is
lost_replies Said bench script (Err stop) is s = subst (λ (z : Stop). Stopped (files_states s s) z script) (sym is) tt

pub lost_keeps : (bench : BenchStates) (result : Result Reply Stop) → IsErrAnd result (λ stop. stop ≡ NoMemory) → KeepsKinds bench result
lost_keeps bench (Ok reply) is = absurd is
lost_keeps bench (Err stop) is = subst (λ (z : Stop). KeepsKinds bench (Err z)) (sym is) tt

-- ---- the bench

-- where no shell is lost whatever is returned
pub loses_none : {X : Type 0} (kinds kinds_after : List ProgramKind) (result : Result X Stop) → IsPermutation kinds kinds_after → LosesNone kinds kinds_after result
loses_none kinds kinds_after (Ok x) same = same
loses_none kinds kinds_after (Err (Refused line)) same = same
loses_none kinds kinds_after (Err (Failed name)) same = same
loses_none kinds kinds_after (Err NoMemory) same = tt

-- one part after another
pub loses_then : {X : Type 0} (kinds middle kinds_after : List ProgramKind) (result : Result X Stop) → IsPermutation kinds middle → LosesNone middle kinds_after result → LosesNone kinds kinds_after result
loses_then kinds middle kinds_after (Ok x) first second = IsPermutation-trans kinds middle kinds_after first second
loses_then kinds middle kinds_after (Err (Refused line)) first second = IsPermutation-trans kinds middle kinds_after first second
loses_then kinds middle kinds_after (Err (Failed name)) first second = IsPermutation-trans kinds middle kinds_after first second
loses_then kinds middle kinds_after (Err NoMemory) first second = tt

-- a command that hands on the stop of a part
pub stop_keeps : {X : Type 0} (bench : BenchStates) (result : Result Reply Stop) (part : Result X Stop) (stop : Stop) → IsErrAnd result (λ given. given ≡ stop) → part ≡ Err stop → LosesNone bench.kinds bench.kinds_after part → KeepsKinds bench result
stop_keeps bench (Ok reply) part stop is at keeps = absurd is
stop_keeps {X} bench (Err other) part stop is at keeps = subst (λ (z : Stop). KeepsKinds bench (Err z)) (sym is) (from stop (subst (λ (r : Result X Stop). LosesNone bench.kinds bench.kinds_after r) at keeps))
  where
    from : (stop : Stop) → LosesNone {X = X} bench.kinds bench.kinds_after (Err stop) → KeepsKinds bench (Err stop)
    from (Refused line) keeps = keeps
    from (Failed name) keeps = keeps
    from NoMemory keeps = tt
