use Rattle.std.proofs.Common.{◌≡◌, ◌+◌, drop}
use Rattle.bloom_forms.specs.HeadOrder as order
use Rattle.bloom_ast.proofs.checking.place_for.Given as goal

abbrev pub invariant-loop-i : goal.invariant-loop-i
invariant-loop-i l = order.place_for (order.key_at l.keys) l.key l.heads ≡ l.i + order.place_for (order.key_at l.keys) l.key (drop l.i l.heads)
