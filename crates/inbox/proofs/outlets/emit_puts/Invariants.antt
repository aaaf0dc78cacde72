use Rattle.std.proofs.Common.{◌≡◌, ◌≤◌, drop, length}
use Rattle.bloom_eval.specs.Puts.{puts_in}
use Rattle.inbox.specs.Growth.{Continues}
use Rattle.messages.specs.Lists.{message_limit}
use Rattle.messages.specs.Lists.{IsExact, read_lists, total}
use Rattle.inbox.specs.Outlets.{emit_outlets}
use Rattle.inbox.proofs.outlets.emit_puts.Given as goal

abbrev pub invariant-loop-outlet : goal.invariant-loop-outlet
invariant-loop-outlet l = record {
  lists : emit_outlets (drop l.outlet-index l.outlets) (puts_in l.fn.lists.records l.puts) (read_lists l.lists) ≡ emit_outlets l.outlets (puts_in l.fn.lists.records l.puts) (read_lists l.fn.lists);
  records : Continues l.fn.lists.records l.lists.records;
  exact : IsExact l.lists;
  few : total l.lists.lists ≤ message_limit;
  sizes : length l.lists.lists ≡ length l.fn.lists.lists;
}
