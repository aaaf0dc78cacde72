use Rattle.std.proofs.Common.{◌≡◌, Some}
use Rattle.worked_calls.proofs.sides.ten_rounds.Given as goal

abbrev pub invariant-loop-number : goal.invariant-loop-number
invariant-loop-number g l = record {
  indexed : ((goal.Component-dyn g (l.indexed.vtable, l.indexed.value)).program l.indexed.value) ≡ Some l.given;
  plain : ((goal.Component-dyn g (l.plain.vtable, l.plain.value)).program l.plain.value) ≡ Some l.given;
}
