use Rattle.std.proofs.Common.{◌≡◌, [], drop}
use Rattle.bloom_forms.specs.HeadOrder as order
use Rattle.bloom_ast.proofs.checking.heads_in.Given as goal

abbrev pub invariant-loop-i : goal.invariant-loop-i
invariant-loop-i l = order.heads_on (order.key_at l.keys) l.i (drop l.i l.collections) l.heads.items ≡ order.heads_on (order.key_at l.keys) 0 l.collections []
