use Rattle.std.proofs.Common.{◌<◌, ◌∙◌, ◌++◌, ℕ, List, subst, sym, take, length}
use Rattle.messages.specs.Ids.{batch_with_ids, IsGiven}
use Rattle.messages.specs.Whole.{partitions}
use Rattle.inbox.specs.Inbox.{Keeps, feeds_in}
use Rattle.messages.specs.Messages.{Pair}
use Rattle.messages.specs.declared.message.Message.{Message}
use Rattle.inbox.proofs.Keeping.Loops.{heard_more, take_whole}
use Rattle.inbox.proofs.Keeping.Touching.{heard_at, number_on}
use Rattle.inbox.proofs.inbox.Inbox.hear_all.Goals as goal

pub hear_one-requires-clause-feed : goal.hear_one-requires-clause-feed
hear_one-requires-clause-feed c =
    subst (λ (n : ℕ). c.index-batch-at.result.0 < n) (sym c.loop-at.invariant.count)
    (subst (λ (p : ℕ × Message). p.0 < feeds_in c.args.self.now) (sym c.index-batch-at.is) (c.requires.feeds c.loop-at.at c.index-batch-at.result c.loop-at-test.true))

pub hear_one-requires-clause-given : goal.hear_one-requires-clause-given
hear_one-requires-clause-given c =
    subst (λ (p : ℕ × Message). IsGiven c.args.pool.now p.1) (sym c.index-batch-at.is) (c.requires.given c.loop-at.at c.index-batch-at.result c.loop-at-test.true)

pub hear_one-requires-clause-number : goal.hear_one-requires-clause-number
hear_one-requires-clause-number c =
    let below : c.loop-at.at < length c.args.touched.now = subst (λ (n : ℕ). c.loop-at.at < n) (sym c.requires.as_many) c.loop-at-test.true in
    number_on (partitions c.args.self.now.feeds) (partitions c.loop-at.self.feeds) _ c.loop-at.invariant.parts (c.requires.numbers c.loop-at.at _ below)

pub loop-at-preserved : goal.loop-at-preserved
loop-at-preserved c =
    let inv = c.loop-at.invariant in
    let one = c.in_ok-hear_one.ensures in
    let records = c.args.pool.now in
    let batch = c.args.batch.now in
    let n = c.loop-at.at in
    let pair = c.index-batch-at.result in
    record {
      count = one.count ∙ inv.count;
      parts = one.partitions ∙ inv.parts;
      keeps = λ instance waits heard said s.
          subst (λ (h : List Pair). Keeps instance records waits h c.hear_one.new.self) (heard_more records heard batch n pair c.loop-at-test.true c.index-batch-at.is)
          (one.keeps instance waits (heard ++ batch_with_ids records (take n batch))
          (heard_at instance records (partitions c.args.self.now.feeds) (partitions c.loop-at.self.feeds) waits batch c.args.touched.now n pair _ inv.parts c.index-batch-at.is c.loop-at-test.true said)
          (inv.keeps instance waits heard said s));
      from = λ given. one.from (inv.from given);
    }

pub returns-clause-keeps : goal.returns-clause-keeps
returns-clause-keeps c = λ instance waits heard said s.
    subst (λ (l : List (ℕ × Message)). Keeps instance c.args.pool.now waits (heard ++ batch_with_ids c.args.pool.now l) c.loop-at.self) (take_whole c.args.batch.now c.loop-at.at c.loop-at-test.false)
    (c.loop-at.invariant.keeps instance waits heard said s)
