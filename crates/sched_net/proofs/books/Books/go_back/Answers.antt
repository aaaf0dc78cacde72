use Rattle.sched_net.proofs.AgainLemmas.{back_to_sources, source_lists}
use Rattle.sched_net.proofs.FirstBooks.{stand_first}
use Rattle.sched_net.proofs.books.Books.go_back.Goals as goal

pub keep_first-requires : goal.keep_first-requires
keep_first-requires c = source_lists c.args.valid.now.view c.known.ensures c.source_count.result c.args.self.now.lists c.source_count.ensures (c.requires.ran c.if-self.false).stand.shows.count

pub first_seats-requires : goal.first_seats-requires
first_seats-requires c = (c.requires.ran c.if-self.false).stand.places

pub returns : goal.returns
returns c = λ given stood done.
    let s = stood c.if-self.false in
    let v = c.args.valid.now.view in
    stand_first v given _ c.component_count.result c.known.ensures s.1.fits s.1.places
    (back_to_sources v c.known.ensures given s.0 c.args.self.now c.source_count.result _ c.source_count.ensures s.1 (c.keep_first.ensures.lists c.if-not-keep_first.false)) (c.keep_first.ensures.exact c.if-not-keep_first.false)
    c.component_count.ensures c.in_ok-logs.ensures c.in_ok-seats.ensures.count c.in_ok-seats.ensures.first c.if-self.false
