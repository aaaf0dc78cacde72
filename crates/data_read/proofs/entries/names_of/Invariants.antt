use Rattle.std.proofs.Common.{◌≡◌, map, take}
use Rattle.data_read.specs.Form.{names_of}
use Rattle.data_read.proofs.entries.names_of.Given as goal

abbrev pub invariant-loop-shape : goal.invariant-loop-shape
invariant-loop-shape l = map (λ name. name.now) l.names.items ≡ names_of (take l.shape-index l.shapes)
