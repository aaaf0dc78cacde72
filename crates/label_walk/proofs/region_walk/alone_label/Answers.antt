-- Paths, mode, replicas and dependencies are those of the output and its component.
use Rattle.std.proofs.Common.{◌≡◌, ℕ, nat_lt, false, ap, rules, ◌∙◌}
use Rattle.topo_forms.specs.View.{is_order}
use Rattle.label_walk.specs.Labels.{as_carried}
use Rattle.label_walk.proofs.Labelling.RemadeLemmas.{alone_is}
use Rattle.label_walk.proofs.region_walk.alone_label.Goals as goal

pub returns : goal.returns
returns c =
    let free : is_order c.args.valid.now.view c.args.component ≡ false = search rules in
    c.as_carried.ensures ∙ ap (as_carried c.args.valid.now.view c.args.stream) c.reconcile-label.ensures.computed
    ∙ alone_is c.args.valid.now.view c.args.labels.now c.args.stream (c.args.component, c.args.output) _ _ _ _ free
    (c.deref-2.ensures.value ∙ c.in_ok-paths.ensures) c.mode.ensures (ap (λ (n : ℕ). nat_lt 1 n) c.replicas-replicated.ensures) (c.deref-3.ensures.value ∙ c.in_ok-fds.ensures)
