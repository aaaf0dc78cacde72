use Rattle.messages.specs.Emitted.{Continues}
use Rattle.messages.proofs.Ids.{pool_on}
use Rattle.messages.proofs.ListsLemmas.{all_given_on}
use Rattle.messages.proofs.Tallies.{tallied_on}
use Rattle.messages.proofs.lists.Lists.id_of.Goals as goal

pub invariant_of-self : goal.invariant_of-self
invariant_of-self c =
    let on : Continues c.self.inside.pool c.place_ref.new.self = pool_on c.place_ref.result c.self.inside.pool c.place_ref.new.self c.args.row.now c.place_ref.ensures.list c.place_ref.ensures.err in (
      all_given_on c.self.inside.pool c.place_ref.new.self c.self.inside.lists.items on c.self.invariant.0,
      c.self.invariant.1,
      c.self.invariant.2,
      c.self.invariant.3,
      tallied_on c.self.inside.pool c.place_ref.new.self c.self.inside.tallies.items c.self.inside.lists.items on c.self.invariant.0 c.self.invariant.4,
    )
