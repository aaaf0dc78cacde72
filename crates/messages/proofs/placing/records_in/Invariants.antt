-- the records of the lists so far
use Rattle.std.proofs.Common.{take}
use Rattle.messages.specs.Code.Placing.{HaveFirst}
use Rattle.messages.proofs.placing.records_in.Given as goal

abbrev pub invariant-loop-list : goal.invariant-loop-list
invariant-loop-list l = HaveFirst (take l.list-index l.lists) l.known
