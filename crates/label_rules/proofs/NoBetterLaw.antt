-- Diverge stays, and no output is better than what goes in.
use Rattle.std.proofs.Common.{◌≡◌, ◌≤◌, Bool, true, false, refl, arith, List, [], ◌∷◌, map}
use Rattle.std.specs.List.{All}
use Rattle.std.proofs.lemmas.List.Elements.{All-nil, All-cons, All-head, All-tail, All-contains}
use Rattle.blz_value.specs.declared.attrs.Attrs.{Attrs}
use Rattle.blz_value.specs.declared.attrs.Fd.{Fd}
use Rattle.bloom_forms.specs.declared.note.Note.{Note}
use Rattle.bloom_forms.specs.declared.note.Note.TheVariants.{CR, CW, OR, OW}
use Rattle.bloom_forms.specs.declared.mode.Mode.{Mode}
use Rattle.label_rules.specs.declared.label.Label.{Label}
use Rattle.label_rules.specs.declared.label.Label.TheVariants.{Seal, Async, Run, Inst, Diverge}
use Rattle.label_rules.specs.declared.label.PathLabel.{PathLabel}
use Rattle.label_rules.specs.declared.label.PathLabel.TheVariants as path
use Rattle.label_rules.specs.Label.{severity}
use Rattle.label_rules.specs.PathTable.{is_mode_key, label_read, over}
use Rattle.label_rules.specs.Reconciliation.{settled, is_protected, all_settled, reconcile}
use Rattle.label_rules.specs.Laws.{path_label, best_of, DivergesAtOutputs, NoBetterThanGiven, NoBetterThanRead}
use Rattle.label_rules.proofs.LabelLemmas.{least_severity}
use Rattle.label_rules.proofs.Worst.{IsNoMore, no_more-first_worst}

All-unmapped : {X Y : Type 0} (P : Y → Type 0) (f : X → Y) (xs : List X) → All P (map f xs) → All (λ x. P (f x)) xs
All-unmapped P f [] all = All-nil _
All-unmapped P f (x ∷ xs) all = All-cons (λ y. P (f y)) x xs (All-head P (f x) (map f xs) all) (All-unmapped P f xs (All-tail P (f x) (map f xs) all))

-- no path label becomes worse than the output
pub no_more-reconcile : (paths : List PathLabel) (mode : Mode) (replicated : Bool) (fds : List Fd) → All (λ one. severity (settled (is_protected paths mode fds) replicated one) ≤ severity (reconcile paths mode replicated fds)) paths
no_more-reconcile paths mode replicated fds = All-unmapped (IsNoMore (reconcile paths mode replicated fds)) (settled (is_protected paths mode fds) replicated) paths (no_more-first_worst (all_settled paths mode replicated fds))

-- the most severe label

is_diverge : (label : Label) → 5 ≤ severity label → label ≡ Diverge
is_diverge (Seal key) h = absurd (omega arith)
is_diverge Async h = absurd (omega arith)
is_diverge Run h = absurd (omega arith)
is_diverge Inst h = absurd (omega arith)
is_diverge Diverge h = refl

pub diverges_at_outputs : DivergesAtOutputs
diverges_at_outputs paths mode replicated fds contains =
    is_diverge (reconcile paths mode replicated fds)
    (All-contains (λ one. severity (settled (is_protected paths mode fds) replicated one) ≤ severity (reconcile paths mode replicated fds)) paths path.Diverge (no_more-reconcile paths mode replicated fds) contains)

-- one path

read_no_less : (mode : Mode) (note : Note) (replicated : Bool) (label : Label) → severity (best_of label note replicated) ≤ severity (best_of (label_read mode label) note replicated)
read_no_less mode note replicated (Seal key) = (elim (is_mode_key mode key) as (λ t. is_mode_key mode key ≡ t → severity (best_of (Seal key) note replicated) ≤ severity (best_of (label_read mode (Seal key)) note replicated)) [
  | true ↦ λ e. rw e (omega arith)
  | false ↦ λ e. rw e (omega arith)
]) refl
read_no_less mode note replicated Async = omega arith
read_no_less mode note replicated Run = omega arith
read_no_less mode note replicated Inst = omega arith
read_no_less mode note replicated Diverge = omega arith

best_of-le : (label : Label) (note : Note) (replicated protected : Bool) (mode : Mode) (fds : List Fd) (columns : Attrs) → severity (best_of label note replicated) ≤ severity (settled protected replicated (over mode fds columns note label))
best_of-le (Seal key) note replicated protected mode fds columns = least_severity _
best_of-le Async CR replicated protected mode fds columns = omega arith
best_of-le Async CW replicated protected mode fds columns = omega arith
best_of-le Async (OR gate) replicated true mode fds columns = omega arith
best_of-le Async (OR gate) true false mode fds columns = omega arith
best_of-le Async (OR gate) false false mode fds columns = omega arith
best_of-le Async (OW gate) true protected mode fds columns = omega arith
best_of-le Async (OW gate) false protected mode fds columns = omega arith
best_of-le Run CR replicated protected mode fds columns = omega arith
best_of-le Run CW replicated protected mode fds columns = omega arith
best_of-le Run (OR gate) replicated true mode fds columns = omega arith
best_of-le Run (OR gate) true false mode fds columns = omega arith
best_of-le Run (OR gate) false false mode fds columns = omega arith
best_of-le Run (OW gate) true protected mode fds columns = omega arith
best_of-le Run (OW gate) false protected mode fds columns = omega arith
best_of-le Inst CR replicated protected mode fds columns = omega arith
best_of-le Inst CW true protected mode fds columns = omega arith
best_of-le Inst CW false protected mode fds columns = omega arith
best_of-le Inst (OR gate) replicated protected mode fds columns = omega arith
best_of-le Inst (OW gate) true protected mode fds columns = omega arith
best_of-le Inst (OW gate) false protected mode fds columns = omega arith
best_of-le Diverge CR replicated protected mode fds columns = omega arith
best_of-le Diverge CW replicated protected mode fds columns = omega arith
best_of-le Diverge (OR gate) replicated protected mode fds columns = omega arith
best_of-le Diverge (OW gate) replicated protected mode fds columns = omega arith

-- all paths

pub no_better_than_read : NoBetterThanRead
no_better_than_read incoming mode replicated fds one contains =
    let paths = map (path_label mode fds) incoming in
    let output = reconcile paths mode replicated fds in
    let below : severity (settled (is_protected paths mode fds) replicated (path_label mode fds one)) ≤ severity output =
    All-contains (λ i. severity (settled (is_protected paths mode fds) replicated (path_label mode fds i)) ≤ severity output) incoming one
    (All-unmapped (λ p. severity (settled (is_protected paths mode fds) replicated p) ≤ severity output) (path_label mode fds) incoming (no_more-reconcile paths mode replicated fds)) contains in
    omega (arith, best_of-le (label_read mode one.label) one.note replicated (is_protected paths mode fds) mode fds one.columns)

pub no_better_than_given : NoBetterThanGiven
no_better_than_given incoming mode replicated fds one contains =
    omega (arith, read_no_less mode one.note replicated one.label, no_better_than_read incoming mode replicated fds one contains)
