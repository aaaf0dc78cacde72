use Rattle.std.proofs.Common.{◌∙◌, ap}
use Rattle.topo_forms.specs.Feeds.{Feed}
use Rattle.sched_net.specs.Seen.{list_seen}
use Rattle.sched_run.proofs.LookingLemmas.{may_look_heard, looks_heard, on_ok_so}
use Rattle.sched_run.proofs.looking.look_at_feed.Goals as goal

pub look-requires-clause-grown : goal.look-requires-clause-grown
look-requires-clause-grown c =
    (may_look_heard c.args.valid.now.view c.args.books.now c.known.ensures c.args.component c.args.replica c.args.number c.args.feed.now c.requires.lane c.seat_at.result.now c.seat_at.ensures c.in-Hears.field-0 c.in-Hears.known c.in-Hears.is
    c.messages.result (c.messages.ensures.list ∙ ap (λ (f : Feed). list_seen c.args.valid.now.view c.args.books.now.lists.lists f.stream f.sender) c.feed.view_is) c.len-count.result c.len-count.ensures c.args.stale c.args.window.now c.requires.window).0

pub look-requires-clause-shown : goal.look-requires-clause-shown
look-requires-clause-shown c =
    (may_look_heard c.args.valid.now.view c.args.books.now c.known.ensures c.args.component c.args.replica c.args.number c.args.feed.now c.requires.lane c.seat_at.result.now c.seat_at.ensures c.in-Hears.field-0 c.in-Hears.known c.in-Hears.is
    c.messages.result (c.messages.ensures.list ∙ ap (λ (f : Feed). list_seen c.args.valid.now.view c.args.books.now.lists.lists f.stream f.sender) c.feed.view_is) c.len-count.result c.len-count.ensures c.args.stale c.args.window.now c.requires.window).1

pub look-requires-clause-fresh : goal.look-requires-clause-fresh
look-requires-clause-fresh c =
    (may_look_heard c.args.valid.now.view c.args.books.now c.known.ensures c.args.component c.args.replica c.args.number c.args.feed.now c.requires.lane c.seat_at.result.now c.seat_at.ensures c.in-Hears.field-0 c.in-Hears.known c.in-Hears.is
    c.messages.result (c.messages.ensures.list ∙ ap (λ (f : Feed). list_seen c.args.valid.now.view c.args.books.now.lists.lists f.stream f.sender) c.feed.view_is) c.len-count.result c.len-count.ensures c.args.stale c.args.window.now c.requires.window).2

pub returns : goal.returns
returns c =
    on_ok_so c.look.result _ _
    (looks_heard c.args.valid.now.view c.args.books.now c.known.ensures c.args.component c.args.replica c.args.number c.args.feed.now c.requires.lane c.seat_at.result.now c.seat_at.ensures c.in-Hears.field-0 c.in-Hears.known c.in-Hears.is
    c.messages.result (c.messages.ensures.list ∙ ap (λ (f : Feed). list_seen c.args.valid.now.view c.args.books.now.lists.lists f.stream f.sender) c.feed.view_is) c.len-count.result c.len-count.ensures c.look.new.self)
    c.look.ensures.window
