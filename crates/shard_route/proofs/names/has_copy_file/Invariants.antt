use Rattle.std.proofs.Common.{◌≡◌, drop}
use Rattle.std.specs.List.{list_any}
use Rattle.shard_route.specs.Routing as spec
use Rattle.shard_route.proofs.names.has_copy_file.Given as goal

abbrev pub invariant-loop-number : goal.invariant-loop-number
invariant-loop-number l = list_any (λ i. spec.has_file l.components (spec.file_of l.name i)) (drop l.number-index l.numbers) ≡ list_any (λ i. spec.has_file l.components (spec.file_of l.name i)) l.numbers
