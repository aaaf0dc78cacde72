use Rattle.std.proofs.Common.{sym, subst}
use Rattle.messages.specs.Numbers.{AreCounted}
use Rattle.messages.proofs.NumbersLemmas.{none_are_counted}
use Rattle.messages.proofs.numbers.NumberSet.clear.Goals as goal

pub invariant_of-self : goal.invariant_of-self
invariant_of-self c = subst (λ words. AreCounted words 0) (sym c.clear.ensures.items) none_are_counted
