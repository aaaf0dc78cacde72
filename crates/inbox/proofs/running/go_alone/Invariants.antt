use Rattle.std.proofs.Common.{◌≡◌, take}
use Rattle.blz_pool.specs.Entries.{entries_with_ids}
use Rattle.inbox.specs.Timesteps.{one_by_one}
use Rattle.inbox.specs.Running.{HasGone}
use Rattle.inbox.proofs.running.go_alone.Given as goal

abbrev pub invariant-loop-entry : goal.invariant-loop-entry
invariant-loop-entry g l = record {
  kind : ((goal.Component-dyn g (l.shell.vtable, l.shell.value)).kind l.shell.value) ≡ ((goal.Component-dyn g (l.fn.shell.vtable, l.fn.shell.value)).kind l.fn.shell.value);
  loaded : ((goal.Component-dyn g (l.shell.vtable, l.shell.value)).program l.shell.value) ≡ ((goal.Component-dyn g (l.fn.shell.vtable, l.fn.shell.value)).program l.fn.shell.value);
  gone : HasGone ((goal.Component-dyn g (l.fn.shell.vtable, l.fn.shell.value)).program l.fn.shell.value) l.outlets ((goal.Component-dyn g (l.fn.shell.vtable, l.fn.shell.value)).kept l.fn.shell.value) ((goal.Component-dyn g (l.shell.vtable, l.shell.value)).kept l.shell.value) l.fn.lists l.lists (one_by_one l.ports (entries_with_ids l.fn.lists.records (take l.entry-index l.entries)));
}
