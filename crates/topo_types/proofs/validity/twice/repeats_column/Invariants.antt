use Rattle.std.proofs.Common.{◌≡◌, drop}
use Rattle.topo_forms.specs.Validity.Twice.{repeats_column}
use Rattle.topo_types.proofs.validity.twice.repeats_column.Given as goal

abbrev pub invariant-loop-side : goal.invariant-loop-side
invariant-loop-side l = repeats_column (drop l.side-index l.sides) ≡ repeats_column l.sides
