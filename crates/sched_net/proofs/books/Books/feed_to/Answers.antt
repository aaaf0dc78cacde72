use Rattle.std.proofs.Common.{◌∙◌, arith, subst, sym}
use Rattle.sched_net.proofs.PartsFound.{seat_place, feeds_shown, feed_shown}
use Rattle.sched_net.specs.Code.Parts.{FeedsRise}
use Rattle.sched_net.proofs.FeedsSorted.{feeds_rise}
use Rattle.sched_net.proofs.books.Books.feed_to.Goals as goal

pub index-requires : goal.index-requires
index-requires c = omega (arith, c.args.self.now.seats.ok, seat_place c.args.valid.now.view c.args.self.now c.args.component c.args.replica c.requires.component c.requires.replica c.requires.runs c.instance-place.result c.instance-place.ensures)

pub returns : goal.returns
returns c =
    c.feed_of.ensures
    ∙ feed_shown c.args.valid.now.view c.args.component c.args.replica c.args.part c.as_slice.result.now
    (c.as_slice.ensures ∙ feeds_shown c.args.valid.now.view c.args.self.now c.args.component c.args.replica c.requires.component c.requires.replica c.requires.runs c.instance-place.result c.index.result.now c.instance-place.ensures c.index.ensures)

pub feed_of-requires : goal.feed_of-requires
feed_of-requires c =
    subst FeedsRise
    (sym (c.as_slice.ensures ∙ feeds_shown c.args.valid.now.view c.args.self.now c.args.component c.args.replica c.requires.component c.requires.replica c.requires.runs c.instance-place.result c.index.result.now c.instance-place.ensures c.index.ensures))
    (feeds_rise c.args.valid.now.view c.args.component c.args.replica)
