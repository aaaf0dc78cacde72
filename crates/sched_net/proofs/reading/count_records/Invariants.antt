-- those of the messages so far
use Rattle.std.proofs.Common.{◌≡◌, ◌≤◌, take}
use Rattle.std.specs.List.{count_by}
use Rattle.sched_net.specs.Code.Records.{is_record}
use Rattle.sched_net.proofs.reading.count_records.Given as goal

abbrev pub invariant-loop-index : goal.invariant-loop-index
invariant-loop-index l = record {
  count : l.count ≡ count_by is_record (take l.index l.messages);
  few : l.count ≤ l.index;
}
