-- the records so far
use Rattle.std.proofs.Common.{◌≡◌, take}
use Rattle.blz_set.specs.References.{shown}
use Rattle.topo_forms.specs.Messages.{rows_in}
use Rattle.messages.specs.Lists.{read_list}
use Rattle.sched_net.proofs.net.Net.rows_of.Given as goal

abbrev pub invariant-loop-index : goal.invariant-loop-index
invariant-loop-index g l = shown l.rows.items ≡ rows_in (read_list l.self.books.lists.records (take l.index l.messages))
