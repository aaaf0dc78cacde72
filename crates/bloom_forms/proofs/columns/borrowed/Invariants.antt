use Rattle.std.proofs.Common.{◌≡◌, take}
use Rattle.bloom_forms.specs.Borrowed.{names_in}
use Rattle.bloom_forms.proofs.columns.borrowed.Given as goal

abbrev pub invariant-loop-name : goal.invariant-loop-name
invariant-loop-name l = names_in l.refs.items ≡ take l.name-index l.names
