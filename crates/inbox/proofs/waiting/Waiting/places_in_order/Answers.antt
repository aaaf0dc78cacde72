use Rattle.std.proofs.Common.{◌∙◌, ap}
use Rattle.std.specs.Ordering.{nat_cmp}
use Rattle.std.proofs.lemmas.List.Filters.{dedup_is}
use Rattle.blz_value.specs.Sets.{set_by}
use Rattle.inbox.proofs.Keeping.Places.{places-sorted}
use Rattle.inbox.proofs.waiting.Waiting.places_in_order.Goals as goal

pub returns : goal.returns
returns c = places-sorted _ _ _ c.sort_unstable.ensures.permutation c.sort_unstable.ensures.sorted (dedup_is _ _ _ c.dedup.ensures.filtered) ∙ ap (set_by nat_cmp) c.in_ok-places.ensures
