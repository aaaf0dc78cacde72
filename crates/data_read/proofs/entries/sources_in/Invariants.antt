use Rattle.std.proofs.Common.{◌≡◌, drop}
use Rattle.serde_json.specs.View.{view}
use Rattle.data_read.specs.Form.{sources_in}
use Rattle.data_read.proofs.Front.{with_entries}
use Rattle.data_read.proofs.entries.sources_in.Given as goal

-- the sources so far, and those of the rest, are all
abbrev pub invariant-loop-shape : goal.invariant-loop-shape
invariant-loop-shape l = with_entries l.sources.items (sources_in (drop l.shape-index l.shapes) (view l.top)) ≡ sources_in l.shapes (view l.top)
