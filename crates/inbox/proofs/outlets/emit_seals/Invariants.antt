use Rattle.std.proofs.Common.{◌≡◌, ◌≤◌, drop, length}
use Rattle.inbox.specs.Growth.{Continues}
use Rattle.messages.specs.Lists.{message_limit}
use Rattle.messages.specs.Lists.{IsExact, read_lists, total}
use Rattle.inbox.specs.Outlets.{seal_outlets}
use Rattle.inbox.proofs.outlets.emit_seals.Given as goal

abbrev pub invariant-loop-outlet : goal.invariant-loop-outlet
invariant-loop-outlet l = record {
  lists : seal_outlets (drop l.outlet-index l.outlets) l.keys (read_lists l.lists) ≡ seal_outlets l.outlets l.keys (read_lists l.fn.lists);
  records : Continues l.fn.lists.records l.lists.records;
  exact : IsExact l.lists;
  few : total l.lists.lists ≤ message_limit;
  sizes : length l.lists.lists ≡ length l.fn.lists.lists;
}
