use Rattle.std.proofs.Common.{◌∙◌, ◌||◌, List, Some, ap, nat_le}
use Rattle.messages.specs.PartitionCounts.{have_at, need_at, is_met}
use Rattle.messages.specs.declared.counter.Counter.{Counter}
use Rattle.messages.proofs.CountersLemmas.{have_kept, need_sealed}
use Rattle.messages.proofs.counter.note_seal.Goals as goal

pub returns-clause-have : goal.returns-clause-have
returns-clause-have c =
    have_kept c.args.counts.now.items c.make_room.new.counts.items c.args.number _ c.in_ok-make_room.ensures.room
    (c.counter_at-was.ensures.have ∙ ap (λ (l : List Counter). have_at l c.args.number) c.deref.ensures.value) c.make_room.ensures.have

pub returns-clause-need : goal.returns-clause-need
returns-clause-need c =
    let now : Counter = record { have = c.counter_at-was.result.have; need = Some c.least_with.result } in
    need_sealed c.args.counts.now.items c.make_room.new.counts.items c.args.number now c.in_ok-make_room.ensures.room c.args.count
    (λ m. c.least_with.ensures m ∙ ap (λ o. is_met o m || nat_le c.args.count m) (c.counter_at-was.ensures.need ∙ ap (λ (l : List Counter). need_at l c.args.number) c.deref.ensures.value)) c.make_room.ensures.need
