use Rattle.std.proofs.Common.{◌≡◌, ◌++◌, map, drop}
use Rattle.std.specs.List.{enumerate_from}
use Rattle.blz_value.specs.Bits.{bit_of}
use Rattle.blz_value.specs.Closure.{closure}
use Rattle.bloom_forms.specs.Reads.{keys_of}
use Rattle.bloom_ast.proofs.reads.keys.Given as goal

abbrev pub invariant-loop-i : goal.invariant-loop-i
invariant-loop-i l = l.keys.items ++ map (λ place. closure (bit_of place.0) l.facts.all) (enumerate_from l.i (drop l.i l.collections)) ≡ keys_of l.collections l.facts.all
