use Rattle.std.proofs.Common.{ℕ, List, subst}
use Rattle.messages.specs.Numbers.{has_number, IsCountOf}
use Rattle.messages.proofs.NumbersLemmas.{few_set}
use Rattle.messages.proofs.numbers.NumberSet.count.Goals as goal

pub returns-clause-count : goal.returns-clause-count
returns-clause-count c = subst (λ (words : List ℕ). IsCountOf (has_number words) c.self.inside.count) c.self.view_is c.self.invariant.counted

pub returns-clause-few : goal.returns-clause-few
returns-clause-few c = few_set c.self.inside.words.items c.self.inside.count c.self.invariant
