use Rattle.messages.specs.Emitted.{Continues}
use Rattle.messages.proofs.Ids.{pool_on}
use Rattle.messages.proofs.ListsLemmas.{all_given_on}
use Rattle.messages.proofs.Tallies.{tallied_on}
use Rattle.messages.proofs.lists.Lists.id_of_own.Goals as goal

pub invariant_of-self : goal.invariant_of-self
invariant_of-self c =
    let on : Continues c.self.inside.pool c.place.new.self = pool_on c.place.result c.self.inside.pool c.place.new.self c.args.row c.place.ensures.list c.place.ensures.err in (
      all_given_on c.self.inside.pool c.place.new.self c.self.inside.lists.items on c.self.invariant.0,
      c.self.invariant.1,
      c.self.invariant.2,
      c.self.invariant.3,
      tallied_on c.self.inside.pool c.place.new.self c.self.inside.tallies.items c.self.inside.lists.items on c.self.invariant.0 c.self.invariant.4,
    )
