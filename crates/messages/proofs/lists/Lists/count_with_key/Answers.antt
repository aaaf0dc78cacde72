use Rattle.std.proofs.Common.{◌<◌, ◌∙◌, Some, length, subst, sym}
use Rattle.std.proofs.lemmas.List.{length-set}
use Rattle.messages.specs.Lists.{Listed}
use Rattle.messages.proofs.Tallies.{taken_many, with_back}
use Rattle.messages.proofs.lists.Lists.count_with_key.Goals as goal

pub invariant_of-self-2 : goal.invariant_of-self-2
invariant_of-self-2 c = (
  c.self.invariant.0,
  c.self.invariant.1,
  c.self.invariant.2,
  length-set c.take_tally-kept.new.tallies.items c.args.place (Some c.in_ok-tally.tally)
      ∙ taken_many c.self.inside.tallies.items c.take_tally-kept.new.tallies.items c.args.place c.take_tally-kept.ensures.left
      ∙ c.self.invariant.3,
  with_back c.self.inside.pool c.self.inside.tallies.items c.self.inside.lists.items c.args.place c.self.invariant.3
      (subst (λ (l : Listed). c.args.place < length l.lists) (sym c.self.view_is) c.requires) c.self.invariant.4
      c.take_tally-kept.new.tallies.items (Some c.in_ok-tally.tally) c.take_tally-kept.ensures.left c.in_ok-tally.ensures.counts,
)
