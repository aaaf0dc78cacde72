use Rattle.std.proofs.Common.{◌∙◌, List, slice_get, ap}
use Rattle.inbox.specs.Events.{Part}
use Rattle.inbox.specs.Places.{list_place}
use Rattle.messages.specs.Ids.{IsGiven}
use Rattle.messages.specs.Lists.{list_at}
use Rattle.messages.specs.declared.message.Message.{Message}
use Rattle.sched_net.proofs.EmittedSeen.{if_ok_so}
use Rattle.sched_net.proofs.ListPlaces.{all_found}
use Rattle.sched_net.proofs.PartsFound.{list_within}
use Rattle.sched_net.proofs.books.Books.message_of.Goals as goal

pub list-requires : goal.list-requires
list-requires c =
    list_within c.args.valid.now.view c.args.self.now c.requires.runs c.args.part.sent.stream c.args.part.sent.replica c.requires.stream c.requires.sender c.list-place.result
    (c.list-place.ensures ∙ ap (λ (p : Part). list_place c.args.valid.now.view p.sent.stream p.sent.replica) c.part.view_is)

pub returns-clause-message : goal.returns-clause-message
returns-clause-message c =
    let lists = c.args.self.now.lists.lists in
    if_ok_so c.message.result _ _
    (λ message is. is
    ∙ ap (λ (l : List Message). slice_get l c.part.inside.index) (c.list.ensures.list ∙ ap (list_at lists) c.list-place.ensures)
    ∙ ap (λ (p : Part). slice_get (list_at lists (list_place c.args.valid.now.view p.sent.stream p.sent.replica)) p.sent.index) c.part.view_is)
    c.message.ensures

pub returns-clause-given : goal.returns-clause-given
returns-clause-given c =
    if_ok_so c.message.result _ _ (λ message is. all_found (IsGiven c.args.self.now.lists.records) c.list.result c.part.inside.index message c.list.ensures.given is) c.message.ensures
