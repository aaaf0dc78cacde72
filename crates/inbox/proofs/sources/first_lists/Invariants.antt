-- the sources so far, and room for the others
use Rattle.std.proofs.Common.{◌≡◌, ◌≤◌, ◌*◌, ◌++◌, length, take}
use Rattle.std.specs.List.{sum_by}
use Rattle.topo_forms.specs.DataCounts.{count_of}
use Rattle.messages.specs.Lists.{IsExact, read_lists, total}
use Rattle.inbox.specs.Sources.{SourcesEmitted}
use Rattle.inbox.proofs.sources.first_lists.Given as goal

abbrev pub invariant-loop-held : goal.invariant-loop-held
invariant-loop-held l = record {
  all : l.yielded ++ l.held-iterator.rest.items ≡ l.fn.given;
  number : l.source ≡ length l.yielded;
  sources : SourcesEmitted l.valid.view l.fn.given l.source (read_lists l.lists);
  exact : IsExact l.lists;
  room : total l.lists.lists ≤ 2 * sum_by count_of (take l.source l.fn.given);
}
