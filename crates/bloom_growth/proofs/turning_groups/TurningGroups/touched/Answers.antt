use Rattle.std.proofs.Common.{◌∙◌, ◌++◌, List, ap}
use Rattle.std.proofs.lemmas.List.Filters.{dedup_is}
use Rattle.blz_value.specs.Operators.{project_rows}
use Rattle.blz_value.specs.Record.{Row}
use Rattle.blz_value.specs.Sets.{set_of}
use Rattle.blz_value.proofs.RowSets.{set_of-dedup}
use Rattle.bloom_growth.proofs.turning_groups.TurningGroups.touched.Goals as goal

pub returns : goal.returns
returns c =
    let own = c.args.self.now.keys.items in
    set_of-dedup _ _ _ c.sort_unstable.ensures.permutation c.sort_unstable.ensures.sorted (dedup_is _ _ _ c.dedup.ensures.filtered)
    ∙ ap set_of (c.in_ok-push_keys-2.ensures ∙ ap (λ (l : List Row). l ++ project_rows own c.args.part.more.now) (c.in_ok-push_keys.ensures ∙ ap (λ (l : List Row). l ++ project_rows own c.args.part.gone.now) c.new-keys.ensures.items))
