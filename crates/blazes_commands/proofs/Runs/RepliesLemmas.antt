-- A command with a bench that goes on after a part stops where the part does, or else replies as what follows.
use Rattle.std.proofs.Common.{◌≡◌, Ok, Err, Result, refl, sym, subst}
use Rattle.std.specs.Result.{IsErrAnd}
use Rattle.command_checks.specs.Ends.{Source, FilesStates, files_states, Came}
use Rattle.command_checks.specs.Ran.{Stopped, answer_of}
use Rattle.command_checks.specs.Reply.{Answer}
use Rattle.command_checks.specs.Script.{Script, ◌>>=◌}
use Rattle.command_checks.specs.Script.Script.{gives, refuses, reads}
use Rattle.command_checks.specs.Script.Ending.{gave}
use Rattle.command_checks.specs.declared.reply.Reply.{Reply}
use Rattle.command_checks.specs.declared.stop.Stop.{Stop}
use Rattle.command_checks.specs.declared.stop.Stop.TheVariants.{Refused, Failed, NoMemory}
use Rattle.command_checks.proofs.ScriptLemmas.{came_then, came_at_once, stop_then, then_stop}
use Rattle.blazes_commands.specs.Runs.Bench.{BenchStates, HasSameKinds}
use Rattle.blazes_commands.specs.Runs.Replies.{IsAnsweredWith, KeepsKinds, RepliesWith}

-- ---- replies

module _ {A : Type 0} (Said : A → BenchStates → Answer → Type 0) where
  -- what a command says of what its checks gave is the answer of its script
  pub followed : {X : Type 0} (a b : Source) (bench : BenchStates) (s : Script X) (work : X → A) (x : X) (answer : Answer) → Came (files_states a b) s (gave x)
      → Said (work x) bench answer → IsAnsweredWith Said (files_states a b) bench (s >>= λ x. gives (work x)) answer
  followed a b bench s work x answer came says = record {
    given = work x;
    came = came_then a b b s (λ x. gives (work x)) x (gave (work x)) came (came_at_once b (work x));
    says = says;
  }

  -- a command whose checks stop
  pub stop_replies : {X : Type 0} (files : FilesStates) (bench : BenchStates) (s : Script X) (next : X → Script A) (result : Result Reply Stop) (stop : Stop)
      → IsErrAnd result (λ given. given ≡ stop) → Stopped files stop s → RepliesWith Said files bench result (s >>= next)
  stop_replies files bench s next (Ok reply) stop is stopped = absurd is
  stop_replies files bench s next (Err given) stop is stopped = stop_then files given s next (subst (λ given. Stopped files given s) (sym is) stopped)

  -- a command whose checks go on with what the first of them gave
  pub then_replies : {X : Type 0} (a b c : Source) (bench : BenchStates) (s : Script X) (next : X → Script A) (x : X) (result : Result Reply Stop)
      → Came (files_states a b) s (gave x) → RepliesWith Said (files_states b c) bench result (next x) → RepliesWith Said (files_states a c) bench result (s >>= next)
  then_replies a b c bench s next x (Ok reply) first rest = record {
    given = rest.given;
    came = came_then a b c s next x (gave rest.given) first rest.came;
    says = rest.says;
  }
  then_replies a b c bench s next x (Err stop) first rest = then_stop a b c s next x stop first rest

-- a part that replies so of what its checks gave replies of the work that this is
pub work_replies : {X A : Type 0} (Part : X → BenchStates → Answer → Type 0) (Said : A → BenchStates → Answer → Type 0) (a b : Source) (bench : BenchStates) (s : Script X) (work : X → A) (result : Result Reply Stop)
    → ((x : X) (answer : Answer) → Part x bench answer → Said (work x) bench answer) → RepliesWith Part (files_states a b) bench result s
    → RepliesWith Said (files_states a b) bench result (s >>= λ x. gives (work x))
work_replies Part Said a b bench s work (Ok reply) says told = followed Said a b bench s work told.given (answer_of reply) told.came (says told.given (answer_of reply) told.says)
work_replies Part Said a b bench s work (Err stop) says stopped = stop_then (files_states a b) stop s (λ x. gives (work x)) stopped

-- where no shell is lost whatever is returned
pub kept_anyway : (bench : BenchStates) (result : Result Reply Stop) → HasSameKinds bench → KeepsKinds bench result
kept_anyway bench (Ok reply) same = same
kept_anyway bench (Err (Refused line)) same = same
kept_anyway bench (Err (Failed name)) same = same
kept_anyway bench (Err NoMemory) same = tt

-- ---- scripts

-- what goes on with two parts goes on with the second, in whatever form that has
pub turned : {A B C : Type 0} (s : Script A) (next : A → Script B) (last : B → Script C) (whole : A → Script C) → ((x : A) → (next x >>= last) ≡ whole x) → ((s >>= next) >>= last) ≡ (s >>= whole)
turned (gives x) next last whole alike = alike x
turned (refuses line) next last whole alike = refl
turned (reads name after) next last whole alike = λ i. reads name (λ bytes. turned (after bytes) next last whole alike i)

pub in_turn : {A B C : Type 0} (s : Script A) (next : A → Script B) (last : B → Script C) → ((s >>= next) >>= last) ≡ (s >>= λ x. next x >>= last)
in_turn s next last = turned s next last (λ x. next x >>= last) (λ x. refl)
