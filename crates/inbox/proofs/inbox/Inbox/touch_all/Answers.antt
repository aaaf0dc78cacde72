use Rattle.std.proofs.Common.{◌≡◌, ◌∙◌, ◌++◌, ◌∷◌, ◌+◌, [], ℕ, List, ap, subst, sym, take}
use Rattle.std.proofs.lemmas.List.{take_more}
use Rattle.messages.specs.Whole.{feeds_view, partitions}
use Rattle.messages.specs.Feeds.{FeedsView}
use Rattle.messages.specs.declared.message.Message.{Message}
use Rattle.inbox.specs.Code.Batches.{IsTouched, AreTouched, key_of_id}
use Rattle.inbox.specs.declared.inbox.Touched.{Touched}
use Rattle.inbox.proofs.Keeping.Touching.{zip_push, touched_on, seen_on, seen_nothing}
use Rattle.inbox.proofs.inbox.Inbox.touch_all.Goals as goal

pub loop-feed-init : goal.loop-feed-init
loop-feed-init c = record { seen = seen_nothing c.args.self.now; touched = subst (λ (l : List Touched). AreTouched c.args.pool.now (feeds_view c.args.self.now.feeds) (partitions c.args.self.now.feeds) [] l) (sym c.new-touched.ensures.items) tt }

pub loop-feed-preserved : goal.loop-feed-preserved
loop-feed-preserved c =
    let inv = c.loop-feed.invariant in
    let was = c.loop-feed.self in
    let now = c.touch.new.self in
    let seen = c.touch.ensures.seen in
    let records = c.args.pool.now in
    let batch = c.args.batch.now in
    let n = c.loop-feed.feed-index in
    let pair = c.loop-feed-item.result in
    let view = feeds_view now.feeds in
    let keys = partitions now.feeds in
    let t = c.in_ok-touch.field-0 in
    let before : AreTouched records view keys (take n batch) c.loop-feed.touched.items =
    touched_on records view (partitions was.feeds) keys (take n batch) c.loop-feed.touched.items seen.numbers
    (subst (λ (v : FeedsView). AreTouched records v (partitions was.feeds) (take n batch) c.loop-feed.touched.items) (sym seen.feeds) inv.touched) in
    let more : take (n + 1) batch ≡ take n batch ++ pair ∷ [] = take_more batch n pair c.loop-feed-test.true ∙ ap (λ (p : ℕ × Message). take n batch ++ p ∷ []) (sym c.loop-feed-item.is) in
    record {
      seen = seen_on c.args.self.now was now inv.seen seen;
      touched =
          subst (λ (l : List (ℕ × Message)). AreTouched records view keys l c.push.new.self.items) (sym more)
          (subst (λ (l : List Touched). AreTouched records view keys (take n batch ++ pair ∷ []) l) (sym c.in_ok-push.ensures.items)
          (zip_push (λ (p : ℕ × Message) (t : Touched). IsTouched view keys (key_of_id records view p) t) (take n batch) c.loop-feed.touched.items pair t before c.in_ok-touch.ensures.touched));
    }
