-- The kinds of a bench's shells before and after a part of a command.
use Rattle.std.specs.Prelude.{List, Result, Ok, Err}
use Rattle.std.specs.List.Sorted.{IsPermutation}
use Rattle.bloom_eval.specs.declared.kind.ProgramKind.{ProgramKind}
use Rattle.command_checks.specs.declared.stop.Stop.{Stop}
use Rattle.command_checks.specs.declared.stop.Stop.TheVariants.{Refused, Failed, NoMemory}

-- as many shells of each kind as before, unless memory runs out
abbrev pub LosesNone : {X : Type 0} → (kinds kinds_after : List ProgramKind) → Result X Stop → Type 0
LosesNone kinds kinds_after (Ok x) = IsPermutation kinds kinds_after
LosesNone kinds kinds_after (Err (Refused line)) = IsPermutation kinds kinds_after
LosesNone kinds kinds_after (Err (Failed name)) = IsPermutation kinds kinds_after
LosesNone kinds kinds_after (Err NoMemory) = Unit {0}
