use Rattle.std.proofs.Common.{◌∙◌, ap, length, nat_eq, Bor}
use Rattle.std.specs.Str.{bytes_eq}
use Rattle.std.proofs.lemmas.Iterator.{YieldsList-from_slice}
use Rattle.bloom_forms.specs.Query.{Name}
use Rattle.topo_types.proofs.Lists.Distinct.{set_len, names_total, names_tie}
use Rattle.topo_types.proofs.validity.twice.names_are_distinct.Goals as goal

pub returns : goal.returns
returns c =
    ap (λ n. nat_eq n (length c.args.names.now)) (c.len.ensures.len ∙ set_len names_total bytes_eq (λ (r : Bor Name). r.now) names_tie c.in_ok-distinct.distinct c.in_ok-distinct.ensures.ran (YieldsList-from_slice c.args.names.now cc))
