use Rattle.std.proofs.Common.{◌≡◌, take}
use Rattle.topo_forms.specs.View.{stream_at}
use Rattle.data_read.proofs.dependencies.columns.columns_of.Given as goal

abbrev pub invariant-loop-place : goal.invariant-loop-place
invariant-loop-place l = l.columns.items ≡ take l.place (stream_at l.valid.view l.stream).columns
