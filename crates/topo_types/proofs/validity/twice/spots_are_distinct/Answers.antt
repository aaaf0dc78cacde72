use Rattle.std.proofs.Common.{◌∙◌, rules, Bor}
use Rattle.std.proofs.lemmas.Iterator.{YieldsList-from_slice, YieldsList-from_map_by}
use Rattle.std.proofs.lemmas.Iterator.Consumers.{YieldsList-at}
use Rattle.bloom_forms.specs.Query.{Name}
use Rattle.topo_forms.specs.Validity.Twice.{same_pair, spot_pair}
use Rattle.topo_types.proofs.Lists.Distinct.{set_len, pairs_total, pairs_tie, compared}
use Rattle.topo_types.proofs.validity.twice.spots_are_distinct.Goals as goal

pub returns : goal.returns
returns c =
    compared _ spot_pair same_pair c.args.spots.now (c.len.ensures.len ∙ set_len pairs_total same_pair (λ (p : Bor Name × Bor Name). (p.0.now, p.1.now)) pairs_tie c.in_ok-distinct.distinct c.in_ok-distinct.ensures.ran (YieldsList-from_map_by _ (λ (p : Bor Name × Bor Name). (p.0.now, p.1.now)) spot_pair (YieldsList-at c.map.ensures.source (YieldsList-from_slice c.args.spots.now cc)) c.map.ensures.closure (λ x r q k. search rules)))
