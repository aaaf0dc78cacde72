-- what is known behind the messages so far
use Rattle.std.proofs.Common.{take}
use Rattle.messages.specs.Code.Placing.{GoesOn}
use Rattle.messages.proofs.placing.known_after.Given as goal

abbrev pub invariant-loop-index : goal.invariant-loop-index
invariant-loop-index l = GoesOn l.before (take l.index l.list) l.known
