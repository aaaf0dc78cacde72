-- An output that is Seal or Async, or Run at several replicas, has good paths.
use Rattle.std.proofs.Common.{◌≡◌, ◌≤◌, ◌<◌, inl, inr, ℕ, Bool, List, arith, sym, subst, ◌∙◌}
use Rattle.std.proofs.lemmas.Bool.{cases_Bool, true≢false}
use Rattle.bloom_forms.specs.declared.note.Note.{Note}
use Rattle.topo_forms.specs.Dependencies.{usable_fds}
use Rattle.topo_forms.specs.Valid.{IsValid}
use Rattle.topo_forms.specs.View.{View, End, mode_of, is_replicated, port_attrs}
use Rattle.label_rules.specs.declared.label.Label.{Label}
use Rattle.label_rules.specs.declared.label.Label.TheVariants.{Seal, Async, Run, Inst, Diverge}
use Rattle.label_rules.specs.Label.{severity}
use Rattle.label_rules.specs.Reconciliation.{is_protected, settled}
use Rattle.label_walk.specs.Labels.{IsOutsideLabel, as_carried}
use Rattle.label_walk.specs.Paths.{label_at, path_label, output_paths}
use Rattle.confluence.specs.LabelMeaning.{IsPath, HasGoodPaths}
use Rattle.confluence.specs.Laws.{GoodPathsOfAsync, GoodPathsOfRun}
use Rattle.confluence.proofs.Labels.Cells.{Tells, unprotected, two_less, three_less, path_tells}
use Rattle.confluence.proofs.Labels.Paths.{has_path, outside_is}
use Rattle.confluence.proofs.Labels.Settling.{settled_below}

-- a Seal that isn't carried was Seal
given_async : (v : View) (s : ℕ) (given : Label) → severity (as_carried v s given) ≤ 2 → severity given ≤ 2
given_async v s (Seal key) h = omega arith
given_async v s Async h = h
given_async v s Run h = h
given_async v s Inst h = h
given_async v s Diverge h = h

given_run : (v : View) (s : ℕ) (given : Label) → as_carried v s given ≡ Run → severity given ≤ 3
given_run v s (Seal key) h = omega arith
given_run v s Async h = omega arith
given_run v s Run h = omega arith
given_run v s Inst h = absurd cc
given_run v s Diverge h = absurd cc

module _ (v : View) (labels : List Label) (output : End) (valid : IsValid v) where
  abbrev protected : Bool
  protected = is_protected (output_paths v labels output.0 output.1) (mode_of v output.0) (usable_fds v output.0)

  -- where each path tells the same
  good : (worst : Label) → ((p : ℕ) (note : Note) (s : ℕ) → IsPath v output p note s → Tells (label_at labels s) note protected (severity worst)) → HasGoodPaths v labels output worst
  good worst tells = record {
    labelled = λ p note s is. (tells p note s is).labelled;
    kept = elim (cases_Bool protected) [
      | inl kept ↦ inl kept
      | inr bare ↦ inr (λ p note s is. elim (tells p note s is).kept [
        | inl kept ↦ absurd (true≢false (sym kept ∙ bare))
        | inr confluent ↦ confluent
      ])
    ];
  }

  -- where the label that Reconciliation gives is no worse than this, and no path with an O note becomes as good
  good_given : (worst : Label) (s : ℕ) (is : IsOutsideLabel v labels s output (label_at labels s)) → severity is.given ≤ severity worst → 2 ≤ severity worst → severity worst < severity (unprotected (is_replicated v output.0)) → HasGoodPaths v labels output worst
  good_given worst s is le some lt = good worst (λ p note u path.
      path_tells (mode_of v output.0) (usable_fds v output.0) (port_attrs v output.0 p) protected (is_replicated v output.0) (severity worst) some lt note (label_at labels u)
      (let below : severity (settled protected (is_replicated v output.0) (path_label v labels output.0 p note u)) ≤ severity is.given = settled_below (output_paths v labels output.0 output.1) (mode_of v output.0) (is_replicated v output.0) (usable_fds v output.0) is.given is.reconciled (path_label v labels output.0 p note u) (has_path v valid labels output p note u path) in
      omega (arith, below, le)))

pub good_of_async : GoodPathsOfAsync
good_of_async v labels s output valid are out h =
    let is = outside_is v labels s output are out in
    let carried : severity (as_carried v s is.given) ≤ 2 = subst (λ (l : Label). severity l ≤ 2) is.carried h in
    good_given v labels output valid Async s is (given_async v s is.given carried) (omega arith) (two_less (is_replicated v output.0))

pub good_of_run : GoodPathsOfRun
good_of_run v labels s output valid are out several h =
    let is = outside_is v labels s output are out in
    good_given v labels output valid Run s is (given_run v s is.given (sym is.carried ∙ h)) (omega arith) (three_less (is_replicated v output.0) several)
