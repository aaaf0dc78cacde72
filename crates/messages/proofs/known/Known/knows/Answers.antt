use Rattle.std.proofs.Common.{◌∙◌, ℕ, List, ap}
use Rattle.messages.specs.Known.{is_known}
use Rattle.messages.proofs.known.Known.knows.Goals as goal

pub returns : goal.returns
returns c = c.knows_at.ensures ∙ ap (λ (places : List (List ℕ)). is_known places c.args.place c.args.number) (c.as_slice.ensures.value ∙ c.self.view_is)
