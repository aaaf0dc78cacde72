use Rattle.std.proofs.Common.{sym, subst}
use Rattle.messages.specs.Numbers.{AreCounted}
use Rattle.messages.proofs.NumbersLemmas.{none_are_counted}
use Rattle.messages.proofs.numbers.NumberSet.new.Goals as goal

pub invariant_of-result : goal.invariant_of-result
invariant_of-result c = subst (λ words. AreCounted words 0) (sym c.new.ensures.items) none_are_counted
