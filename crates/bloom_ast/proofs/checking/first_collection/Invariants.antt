use Rattle.std.proofs.Common.{◌≡◌, drop}
use Rattle.blz_value.specs.FirstPlace.{first_place}
use Rattle.bloom_forms.specs.Faults as spec
use Rattle.bloom_ast.proofs.checking.first_collection.Given as goal

abbrev pub invariant-loop-i : goal.invariant-loop-i
invariant-loop-i l = first_place (spec.bad_collection l.kind l.collections) l.i (drop l.i l.collections) ≡ first_place (spec.bad_collection l.kind l.collections) 0 l.collections
