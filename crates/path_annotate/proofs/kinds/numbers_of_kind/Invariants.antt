use Rattle.std.proofs.Common.{◌≡◌, ◌++◌, map, filter, drop}
use Rattle.std.specs.List.{enumerate_from}
use Rattle.bloom_forms.specs.Kinds.{same_kind}
use Rattle.bloom_forms.specs.KindNumbers as spec
use Rattle.path_annotate.proofs.kinds.numbers_of_kind.Given as goal

abbrev pub invariant-loop-i : goal.invariant-loop-i
invariant-loop-i l = l.numbers.items ++ map (λ place. place.0) (filter (λ place. same_kind l.kind place.1.kind) (enumerate_from l.i (drop l.i l.collections))) ≡ spec.numbers_of_kind l.kind l.collections
