use Rattle.std.proofs.Common.{refl}
use Rattle.sched_net.proofs.FirstBooks.{stand_first}
use Rattle.sched_net.proofs.opening.first_books.Goals as goal

pub returns : goal.returns
returns c =
    stand_first c.args.valid.now.view c.args.given _ c.component_count.result c.known.ensures c.requires c.in_ok-places.ensures c.in_ok-lists.ensures.sources c.in_ok-lists.ensures.exact
    c.component_count.ensures c.in_ok-logs.ensures c.in_ok-seats.ensures.count c.in_ok-seats.ensures.first refl
