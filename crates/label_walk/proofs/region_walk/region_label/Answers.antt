-- Paths and replicas are those of the region.
use Rattle.std.proofs.Common.{[], ◌∙◌}
use Rattle.bloom_forms.specs.declared.mode.Mode.TheVariants.{Free}
use Rattle.label_rules.specs.Reconciliation.{reconcile}
use Rattle.label_walk.proofs.region_walk.region_label.Goals as goal

pub returns : goal.returns
returns c =
    let paths = c.deref.ensures.value ∙ c.in_ok-paths.ensures in
    let replicated = c.in_ok-replicated.ensures in
    c.reconcile.ensures.computed ∙ (λ i. reconcile (paths i) Free (replicated i) [])
