-- the names so far, which are no more than the steps
use Rattle.std.proofs.Common.{◌≡◌, ◌≤◌, [], drop, length}
use Rattle.topo_forms.specs.Attributes.{with_columns}
use Rattle.shard_route.proofs.gates.names_of.Given as goal

abbrev pub invariant-loop-name : goal.invariant-loop-name
invariant-loop-name l = record {
  all : with_columns l.names (drop l.name-index l.list) ≡ with_columns [] l.list;
  few : length l.names ≤ l.name-index;
}
