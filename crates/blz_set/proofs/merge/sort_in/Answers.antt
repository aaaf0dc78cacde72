use Rattle.std.proofs.Common.{◌∙◌, ap}
use Rattle.std.proofs.lemmas.List.Filters.{dedup_is}
use Rattle.blz_value.specs.Sets.{set_of}
use Rattle.blz_value.proofs.RowSets.{set_of-dedup}
use Rattle.blz_set.proofs.merge.sort_in.Goals as goal

pub returns-in-Ok-clause-ok : goal.returns-in-Ok-clause-ok
returns-in-Ok-clause-ok c = set_of-dedup _ _ _ c.in-Ok.ensures.permutation c.in-Ok.ensures.sorted (dedup_is _ _ _ c.dedup.ensures.filtered) ∙ ap set_of c.in_ok-append.ensures.items
