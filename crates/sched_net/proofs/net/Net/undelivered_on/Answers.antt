use Rattle.std.proofs.Common.{◌≡◌, ◌<◌, ◌-◌, ◌∙◌, ℕ, true, List, length, get_or, ap, sym, subst, arith}
use Rattle.messages.specs.declared.message.Message.{Message as IdMessage}
use Rattle.topo_forms.specs.Feeds.{no_feed}
use Rattle.messages.specs.Known.{is_known}
use Rattle.messages.proofs.CountingLemmas.{count_others, few_counted}
use Rattle.sched_net.specs.Code.Remaining.{unknown_on}
use Rattle.sched_net.proofs.EmittedSeen.{seen_within}
use Rattle.sched_net.proofs.net.Net.undelivered_on.Goals as goal

pub overflow_sub-result : goal.overflow_sub-result
overflow_sub-result g c =
    let within : (k : ℕ) → is_known c.args.known.now c.args.number k ≡ true → k < length c.feed_list.result = λ k is.
    subst (λ (l : List IdMessage). k < length l) (sym c.feed_list.ensures) (c.requires.within c.args.number k c.requires.number is) in
    omega (arith, c.len.ensures, few_counted (is_known c.args.known.now c.args.number) (length c.feed_list.result) c.count.result c.count.ensures within)

pub returns-clause-count : goal.returns-clause-count
returns-clause-count g c =
    let within : (k : ℕ) → is_known c.args.known.now c.args.number k ≡ true → k < length c.feed_list.result = λ k is.
    subst (λ (l : List IdMessage). k < length l) (sym c.feed_list.ensures) (c.requires.within c.args.number k c.requires.number is) in
    ap (λ n. n - c.count.result) c.len.ensures
    ∙ count_others (is_known c.args.known.now c.args.number) (length c.feed_list.result) c.count.result c.count.ensures within
    ∙ ap (λ (l : List IdMessage). unknown_on c.args.known.now c.args.number (length l)) c.feed_list.ensures

pub returns-clause-few : goal.returns-clause-few
returns-clause-few g c =
    let feed = get_or c.args.feeds.now c.args.number no_feed in
    omega (arith, c.len.ensures, ap (λ (l : List IdMessage). length l) c.feed_list.ensures, seen_within c.args.self.now.valid.now.view c.args.self.now.books.lists.lists feed.stream feed.sender, c.known.ensures.few)
