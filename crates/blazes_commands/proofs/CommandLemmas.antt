-- The end of a command is the answer at the end of its script.
use Rattle.std.proofs.Common.{Ok, Err, IfOk, Result, sym, subst}
use Rattle.std.specs.declared.alloc.AllocError.{AllocError}
use Rattle.command_checks.specs.Script.{Script}
use Rattle.command_checks.specs.Script.Ending.{gave, refused, failed}
use Rattle.command_checks.specs.Ends.{FilesStates}
use Rattle.command_checks.specs.Reply.{Answer}
use Rattle.command_checks.specs.Ran.{Concludes, answer_of}
use Rattle.command_checks.specs.declared.reply.Reply.{Reply}
use Rattle.command_checks.specs.declared.stop.Stop.{Stop}
use Rattle.command_checks.specs.declared.stop.Stop.TheVariants.{Refused, Failed, NoMemory}
use Rattle.blazes_commands.specs.Runs.Bench.{BenchStates, HasSameKinds}
use Rattle.blazes_commands.specs.Runs.Replies.{KeepsKinds, RepliesWith}
use Rattle.blazes_commands.specs.Answer.{IsAnswered}
use Rattle.blazes_commands.specs.Commands.{Work, Says}

-- the reply at the end of a command is the answer of its script
pub concluded : (files : FilesStates) (bench : BenchStates) (outcome : Result Reply Stop) (checks : Script Work) (answer : Answer)
    → RepliesWith Says files bench outcome checks → Concludes outcome answer → IsAnswered checks files bench answer
concluded files bench (Ok reply) checks answer replies is =
    subst (IsAnswered checks files bench) (sym is) (record { ending = gave replies.given; came = replies.came; answers = replies.says })
concluded files bench (Err (Refused line)) checks answer stopped is = record { ending = refused line.items; came = stopped; answers = is }
concluded files bench (Err (Failed name)) checks answer stopped is = record { ending = failed name; came = stopped; answers = is }
concluded files bench (Err NoMemory) checks answer stopped is = absurd is

-- the reply of a command, where it could be made, is the answer of its script
pub outcome_concluded : (files : FilesStates) (bench : BenchStates) (outcome : Result Reply Stop) (checks : Script Work) (result : Result Reply AllocError)
    → RepliesWith Says files bench outcome checks → IfOk result (λ reply. Concludes outcome (answer_of reply)) → IfOk result (λ reply. IsAnswered checks files bench (answer_of reply))
outcome_concluded files bench outcome checks (Ok reply) replies concludes = concluded files bench outcome checks (answer_of reply) replies concludes
outcome_concluded files bench outcome checks (Err want) replies concludes = tt

-- and no shell is lost
kept_concluded : (bench : BenchStates) (outcome : Result Reply Stop) (answer : Answer) → KeepsKinds bench outcome → Concludes outcome answer → HasSameKinds bench
kept_concluded bench (Ok reply) answer keeps is = keeps
kept_concluded bench (Err (Refused line)) answer keeps is = keeps
kept_concluded bench (Err (Failed name)) answer keeps is = keeps
kept_concluded bench (Err NoMemory) answer keeps is = absurd is

pub kinds_concluded : (bench : BenchStates) (outcome : Result Reply Stop) (result : Result Reply AllocError)
    → KeepsKinds bench outcome → IfOk result (λ reply. Concludes outcome (answer_of reply)) → IfOk result (λ reply. HasSameKinds bench)
kinds_concluded bench outcome (Ok reply) keeps concludes = kept_concluded bench outcome (answer_of reply) keeps concludes
kinds_concluded bench outcome (Err want) keeps concludes = tt

-- where no shell is lost whatever is returned
pub same_anyway : (bench : BenchStates) (result : Result Reply AllocError) → HasSameKinds bench → IfOk result (λ reply. HasSameKinds bench)
same_anyway bench (Ok reply) same = same
same_anyway bench (Err want) same = tt
