use Rattle.std.proofs.Common.{◌+◌, ◌∙◌, List, ap}
use Rattle.messages.specs.PartitionCounts.{have_at, need_at}
use Rattle.messages.specs.declared.counter.Counter.{Counter}
use Rattle.messages.proofs.CountersLemmas.{have_counted, need_kept}
use Rattle.messages.proofs.counter.count_row.Goals as goal

pub returns-clause-have : goal.returns-clause-have
returns-clause-have c =
    have_counted c.args.counts.now.items c.make_room.new.counts.items c.args.number _ c.in_ok-make_room.ensures.room
    (ap (λ n. n + 1) c.counter_at-was.ensures.have ∙ ap (λ (l : List Counter). have_at l c.args.number + 1) c.deref.ensures.value) c.make_room.ensures.have

pub returns-clause-need : goal.returns-clause-need
returns-clause-need c =
    need_kept c.args.counts.now.items c.make_room.new.counts.items c.args.number _ c.in_ok-make_room.ensures.room
    (c.counter_at-was.ensures.need ∙ ap (λ (l : List Counter). need_at l c.args.number) c.deref.ensures.value) c.make_room.ensures.need
