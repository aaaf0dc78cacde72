use Rattle.std.proofs.Common.{ℕ, List, ap, ◌∙◌}
use Rattle.std.specs.List.{sum}
use Rattle.sched_turns.proofs.LevelsLemmas.{total_is}
use Rattle.sched_turns.proofs.sizes.Sizes.total.Goals as goal

pub returns : goal.returns
returns c =
    total_is c.self.inside.levels.items c.self.invariant c.len.result c.size_at.result c.index.result.now (c.len.ensures ∙ c.self.inside.levels.ok.0) c.index.ensures c.size_at.ensures
    ∙ ap (λ (l : List ℕ). sum l) c.self.view_is
