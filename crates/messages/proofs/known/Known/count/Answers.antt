use Rattle.std.proofs.Common.{◌∙◌, ℕ, List, subst}
use Rattle.messages.specs.Numbers.{IsCountOf}
use Rattle.messages.specs.Known.{is_known}
use Rattle.messages.proofs.known.Known.count.Goals as goal

pub returns : goal.returns
returns c = subst (λ (places : List (List ℕ)). IsCountOf (is_known places c.args.place) c.count_of.result) (c.as_slice.ensures.value ∙ c.self.view_is) c.count_of.ensures
