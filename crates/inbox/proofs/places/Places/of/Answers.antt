use Rattle.std.proofs.Common.{◌∙◌}
use Rattle.inbox.proofs.PlacesMade.{are_places}
use Rattle.inbox.proofs.places.Places.of.Goals as goal

pub returns : goal.returns
returns c =
    are_places c.args.valid.now.view (record { instances = c.from_vec.result; lists = c.from_vec-2.result })
    (c.from_vec.ensures ∙ c.in_ok-instance_places.ensures) (c.from_vec-2.ensures ∙ c.in_ok-list_places.ensures)
