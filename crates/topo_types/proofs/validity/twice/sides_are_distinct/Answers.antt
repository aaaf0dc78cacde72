use Rattle.std.proofs.Common.{◌∙◌, rules, Bor}
use Rattle.std.specs.Str.{bytes_eq}
use Rattle.std.proofs.lemmas.Iterator.{YieldsList-from_slice, YieldsList-from_map_by}
use Rattle.std.proofs.lemmas.Iterator.Consumers.{YieldsList-at}
use Rattle.topo_forms.specs.declared.topology.Side.{Side}
use Rattle.bloom_forms.specs.Query.{Name}
use Rattle.topo_types.proofs.Lists.Distinct.{set_len, names_total, names_tie, compared}
use Rattle.topo_types.proofs.validity.twice.sides_are_distinct.Goals as goal

pub returns : goal.returns
returns c =
    compared _ (λ (s : Side). s.name) bytes_eq c.args.sides.now (c.len.ensures.len ∙ set_len names_total bytes_eq (λ (r : Bor Name). r.now) names_tie c.in_ok-distinct.distinct c.in_ok-distinct.ensures.ran (YieldsList-from_map_by _ (λ (r : Bor Name). r.now) (λ (s : Side). s.name) (YieldsList-at c.map.ensures.source (YieldsList-from_slice c.args.sides.now cc)) c.map.ensures.closure (λ x r q k. search rules)))
