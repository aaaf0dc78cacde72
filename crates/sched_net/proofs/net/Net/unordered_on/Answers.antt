use Rattle.std.proofs.Common.{◌≡◌, ◌<◌, ◌≤◌, ◌∙◌, true, false, List, length, slice_get, take_all, ap, arith, rules}
use Rattle.std.specs.List.{count_by}
use Rattle.std.specs.Option.{option_map_or}
use Rattle.topo_forms.specs.Feeds.{Feed}
use Rattle.messages.specs.declared.message.Message.{Message}
use Rattle.sched_net.specs.Seen.{list_seen}
use Rattle.sched_net.specs.Code.Remaining.{is_unlogged}
use Rattle.sched_net.proofs.EmittedSeen.{seen_within}
use Rattle.sched_net.proofs.ListPlaces.{counted_at}
use Rattle.sched_net.proofs.net.Net.unordered_on.Goals as goal
use Rattle.sched_net.proofs.net.Net.unordered_on.Goals.{then-is_unlogged, else-is_unlogged}

pub loop-index-preserved : goal.loop-index-preserved
loop-index-preserved g c =
    let feed = c.args.feed.now in
    let list = list_seen c.args.self.now.valid.now.view c.args.self.now.books.lists.lists feed.stream feed.sender in
    let test = is_unlogged c.args.self.now.books.lists.records c.args.log.now feed.port in
    let index = c.loop-index.index in
    let are : c.messages-messages.result ≡ list = c.messages-messages.ensures.list ∙ ap (λ (f : Feed). list_seen c.args.self.now.valid.now.view c.args.self.now.books.lists.lists f.stream f.sender) c.feed.view_is in
    let within : index < length list = omega (arith, c.loop-index-test.true, c.len-index-end.ensures, ap (λ (l : List Message). length l) are) in
    let tells : c.is_unlogged.result ≡ option_map_or test (slice_get list index) false =
    c.is_unlogged.ensures
    ∙ ap (λ (f : Feed). option_map_or (is_unlogged c.args.self.now.books.lists.records c.args.log.now f.port) (slice_get c.messages-messages.result index) false) c.feed.view_is
    ∙ ap (λ (l : List Message). option_map_or test (slice_get l index) false) are in
    elim c.if-is_unlogged.branch [
      | then-is_unlogged w ↦ record {
        count = (let passes : true ≡ c.is_unlogged.result = search rules in counted_at test list index true c.loop-index.left c.if-is_unlogged.left within (passes ∙ tells) c.loop-index.invariant.count w.left-is);
        few = omega (arith, w.left-is, c.loop-index.invariant.few);
      }
      | else-is_unlogged w ↦ record {
        count = (let fails : false ≡ c.is_unlogged.result = search rules in counted_at test list index false c.loop-index.left c.if-is_unlogged.left within (fails ∙ tells) c.loop-index.invariant.count (omega (arith, w.left-is)));
        few = omega (arith, w.left-is, c.loop-index.invariant.few);
      }
    ]

pub returns-clause-count : goal.returns-clause-count
returns-clause-count g c =
    let feed = c.args.feed.now in
    let list = list_seen c.args.self.now.valid.now.view c.args.self.now.books.lists.lists feed.stream feed.sender in
    let are : c.messages-messages.result ≡ list = c.messages-messages.ensures.list ∙ ap (λ (f : Feed). list_seen c.args.self.now.valid.now.view c.args.self.now.books.lists.lists f.stream f.sender) c.feed.view_is in
    let past : length list ≤ c.loop-index.index = omega (arith, c.loop-index-test.false, c.len-index-end.ensures, ap (λ (l : List Message). length l) are) in
    c.loop-index.invariant.count
    ∙ ap (count_by (is_unlogged c.args.self.now.books.lists.records c.args.log.now feed.port)) (take_all c.loop-index.index list past)

pub returns-clause-few : goal.returns-clause-few
returns-clause-few g c =
    let feed = c.feed.inside in
    let inside = seen_within c.args.self.now.valid.now.view c.args.self.now.books.lists.lists feed.stream feed.sender in
    omega (arith, c.loop-index.invariant.few, c.loop-index.auto.index-end, c.len-index-end.ensures, ap (λ (l : List Message). length l) c.messages-messages.ensures.list, inside, c.known.ensures.few)
