use Rattle.std.proofs.Common.{◌≡◌, take, map}
use Rattle.bloom_forms.specs.Borrowed.{names_in}
use Rattle.bloom_forms.proofs.columns.seconds.Given as goal

abbrev pub invariant-loop-pair : goal.invariant-loop-pair
invariant-loop-pair l = names_in l.refs.items ≡ map (λ pair. pair.1) (take l.pair-index l.pairs)
