use Rattle.std.proofs.Common.{◌∙◌, ap, subst, sym}
use Rattle.topo_forms.specs.Feeds.{Feed}
use Rattle.sched_turns.specs.Windows.{IsWindow, MayShow, OthersAreOpen}
use Rattle.sched_net.specs.Seen.{list_seen}
use Rattle.sched_run.specs.Code.Looking.{is_unlogged_at}
use Rattle.sched_run.proofs.LookingLemmas.{may_look_logged, looks_logged, on_ok_so}
use Rattle.sched_run.proofs.looking.look_at_log.Goals as goal

pub look-requires-clause-grown : goal.look-requires-clause-grown
look-requires-clause-grown c =
    (may_look_logged c.args.valid.now.view c.args.books.now c.known.ensures c.args.component c.args.feed.now c.requires.lane c.index.result.now c.index.ensures
    c.messages-messages.result (c.messages-messages.ensures.list ∙ ap (λ (f : Feed). list_seen c.args.valid.now.view c.args.books.now.lists.lists f.stream f.sender) c.feed.view_is) c.len-count.result c.len-count.ensures c.known-2.ensures.pool c.messages-messages.ensures.given c.args.stale c.args.window.now c.requires.window).0

pub look-requires-clause-shown : goal.look-requires-clause-shown
look-requires-clause-shown c =
    subst (λ port. MayShow (is_unlogged_at c.index.result.now port c.messages-messages.result) c.args.window.now) (sym (ap (λ (f : Feed). f.port) c.feed.view_is))
    (may_look_logged c.args.valid.now.view c.args.books.now c.known.ensures c.args.component c.args.feed.now c.requires.lane c.index.result.now c.index.ensures
    c.messages-messages.result (c.messages-messages.ensures.list ∙ ap (λ (f : Feed). list_seen c.args.valid.now.view c.args.books.now.lists.lists f.stream f.sender) c.feed.view_is) c.len-count.result c.len-count.ensures c.known-2.ensures.pool c.messages-messages.ensures.given c.args.stale c.args.window.now c.requires.window).1

pub look-requires-clause-fresh : goal.look-requires-clause-fresh
look-requires-clause-fresh c =
    subst (λ port. OthersAreOpen (is_unlogged_at c.index.result.now port c.messages-messages.result) c.args.stale c.args.window.now.places) (sym (ap (λ (f : Feed). f.port) c.feed.view_is))
    (may_look_logged c.args.valid.now.view c.args.books.now c.known.ensures c.args.component c.args.feed.now c.requires.lane c.index.result.now c.index.ensures
    c.messages-messages.result (c.messages-messages.ensures.list ∙ ap (λ (f : Feed). list_seen c.args.valid.now.view c.args.books.now.lists.lists f.stream f.sender) c.feed.view_is) c.len-count.result c.len-count.ensures c.known-2.ensures.pool c.messages-messages.ensures.given c.args.stale c.args.window.now c.requires.window).2

pub returns : goal.returns
returns c =
    on_ok_so c.look.result (IsWindow (is_unlogged_at c.index.result.now c.feed.inside.port c.messages-messages.result) c.len-count.result c.look.new.self) _
    (λ own. looks_logged c.args.valid.now.view c.args.books.now c.known.ensures c.args.component c.args.feed.now c.requires.lane c.index.result.now c.index.ensures
    c.messages-messages.result (c.messages-messages.ensures.list ∙ ap (λ (f : Feed). list_seen c.args.valid.now.view c.args.books.now.lists.lists f.stream f.sender) c.feed.view_is) c.len-count.result c.len-count.ensures c.known-2.ensures.pool c.messages-messages.ensures.given c.look.new.self
    (subst (λ port. IsWindow (is_unlogged_at c.index.result.now port c.messages-messages.result) c.len-count.result c.look.new.self) (ap (λ (f : Feed). f.port) c.feed.view_is) own))
    c.look.ensures.window
