use Rattle.std.proofs.Common.{◌≡◌, ◌++◌, drop}
use Rattle.bloom_forms.specs.Borrowed.{names_in}
use Rattle.bloom_forms.proofs.Collections.JoinedNames.{others_from}
use Rattle.bloom_forms.proofs.columns.joined.Given as goal

abbrev pub invariant-loop-number : goal.invariant-loop-number
invariant-loop-number l =
    names_in l.refs.items ++ others_from (names_in l.right) l.pairs l.number (names_in (drop l.number l.right))
    ≡ names_in l.initial.refs.items ++ others_from (names_in l.right) l.pairs 0 (names_in l.right)
