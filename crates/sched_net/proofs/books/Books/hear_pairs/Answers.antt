use Rattle.sched_net.proofs.HearingStands.{books_can}
use Rattle.sched_net.proofs.HearingTests.{hears_is}
use Rattle.sched_net.proofs.PartsFound.{seat_place}
use Rattle.sched_net.proofs.books.Books.hear_pairs.Goals as goal

pub hear_at-requires-clause-place : goal.hear_at-requires-clause-place
hear_at-requires-clause-place c =
    let own = hears_is c.args.valid.now.view c.args.component c.args.replica c.requires.hears in
    seat_place c.args.valid.now.view c.args.self.now c.args.component c.args.replica own.there own.within c.requires.runs c.instance-place.result c.instance-place.ensures

pub hear_at-requires-clause-can : goal.hear_at-requires-clause-can
hear_at-requires-clause-can c =
    books_can c.args.valid.now.view c.args.self.now c.args.component c.args.replica c.args.pairs.now c.requires.hears c.requires.runs c.requires.feeds c.requires.given c.instance-place.result c.instance-place.ensures c.pool.result.now c.pool.ensures
