use Rattle.std.proofs.Common.{◌≡◌, ◌≤◌, drop}
use Rattle.data_read.specs.Counting.{passed_at}
use Rattle.topo_forms.specs.DataCounts.{source_limit}
use Rattle.data_read.proofs.counting.passed_at.Given as goal

-- the place from here on, after so many rows and parts, is that of all
abbrev pub invariant-loop-place : goal.invariant-loop-place
invariant-loop-place l = (passed_at l.so_far l.place (drop l.place l.sources) ≡ passed_at 0 0 l.sources) × (l.so_far ≤ source_limit)
