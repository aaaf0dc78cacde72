-- the key of what the sources so far hold
use Rattle.std.proofs.Common.{◌≡◌, fold, take}
use Rattle.blz_value.specs.HashKey.{first_key}
use Rattle.topo_forms.specs.HashKeys.{with_held}
use Rattle.topo_forms.proofs.source_lists.hash_key.Given as goal

abbrev pub invariant-loop-lists : goal.invariant-loop-lists
invariant-loop-lists l = l.key ≡ fold with_held first_key (take l.lists-index l.sources)
