-- A less severe label that goes in never gives a more severe output.
use Rattle.std.proofs.Common.{◌≡◌, ◌<◌, ◌≤◌, ℕ, Bool, true, false, nat_lt, ◌&&◌, refl, ap, sym, ◌∙◌, arith, List, [], ◌∷◌, ◌++◌, map, ◌⊎◌, inl, inr}
use Rattle.std.specs.Cmp.{first_so, second_so}
use Rattle.std.specs.Cmp.Derive.{both_true}
use Rattle.std.specs.List.{All, list_all}
use Rattle.std.proofs.lemmas.Bool.{eqb-true, ltb-true, ltb-false}
use Rattle.std.proofs.lemmas.List.Elements.{All-cons, All-head, All-tail}
use Rattle.blz_value.specs.declared.attrs.Attrs.{Attrs}
use Rattle.blz_value.specs.declared.attrs.Fd.{Fd}
use Rattle.bloom_forms.specs.declared.note.Note.{Note}
use Rattle.bloom_forms.specs.declared.mode.Mode.{Mode}
use Rattle.bloom_forms.specs.declared.mode.Mode.TheVariants as mode
use Rattle.label_rules.specs.declared.label.Label.{Label}
use Rattle.label_rules.specs.declared.label.Label.TheVariants.{Seal, Async, Run, Inst, Diverge}
use Rattle.label_rules.specs.declared.label.Base.{Base}
use Rattle.label_rules.specs.declared.label.Base.TheVariants as base
use Rattle.label_rules.specs.declared.label.PathLabel.{PathLabel}
use Rattle.label_rules.specs.declared.label.PathLabel.TheVariants as path
use Rattle.label_rules.specs.Label.{severity}
use Rattle.label_rules.specs.PathTable.{is_mode_key, label_read, over, pass_path}
use Rattle.label_rules.specs.Reconciliation.{base_label, settled_read, settled, is_covered, is_protected, first_worst, reconcile}
use Rattle.label_rules.specs.Laws.{MonotoneInGiven, MonotoneInRead}
use Rattle.label_rules.proofs.LabelLemmas.{least_severity}
use Rattle.label_rules.proofs.Worst.{IsNoMore, no_more-first_worst, first_worst-no_more}
use Rattle.label_rules.proofs.PathTableLemmas.{IsAsGood, good-refl, ascends-lt, over_ascends}

-- labels as they are read

-- the key of a mode that has one
abbrev mode_key : Mode → Attrs
mode_key mode.Free = record { bits = 0 }
mode_key (mode.Pass key) = key
mode_key (mode.Seal key) = key
mode_key mode.Order = record { bits = 0 }

is_mode_key-same : (mode : Mode) (key : Attrs) → is_mode_key mode key ≡ true → key ≡ mode_key mode
is_mode_key-same mode.Free key h = cc
is_mode_key-same (mode.Pass own) key h = ap (λ n. record { bits = n }) (sym (eqb-true own.bits key.bits h))
is_mode_key-same (mode.Seal own) key h = ap (λ n. record { bits = n }) (sym (eqb-true own.bits key.bits h))
is_mode_key-same mode.Order key h = cc

-- the label with this key in place of its own
abbrev with_key : Attrs → Label → Label
with_key key (Seal own) = Seal key
with_key key Async = Async
with_key key Run = Run
with_key key Inst = Inst
with_key key Diverge = Diverge

with_key-same : (key : Attrs) (a b : Label) → severity a ≡ severity b → with_key key a ≡ with_key key b
with_key-same key (Seal a) (Seal b) h = refl
with_key-same key Async Async h = refl
with_key-same key Run Run h = refl
with_key-same key Inst Inst h = refl
with_key-same key Diverge Diverge h = refl
with_key-same key a b h = absurd (omega arith)

-- a label Seal that is read as such has the mode's key
label_read-with_key : (mode : Mode) (label : Label) → label_read mode label ≡ with_key (mode_key mode) (label_read mode label)
label_read-with_key mode (Seal key) = (elim (is_mode_key mode key) as (λ t. is_mode_key mode key ≡ t → label_read mode (Seal key) ≡ with_key (mode_key mode) (label_read mode (Seal key))) [
  | true ↦ λ e. rw e (ap (λ k. Seal k) (is_mode_key-same mode key e))
  | false ↦ λ e. rw e refl
]) refl
label_read-with_key mode Async = refl
label_read-with_key mode Run = refl
label_read-with_key mode Inst = refl
label_read-with_key mode Diverge = refl

label_read-same : (mode : Mode) (a b : Label) → severity (label_read mode a) ≡ severity (label_read mode b) → label_read mode a ≡ label_read mode b
label_read-same mode a b h = label_read-with_key mode a ∙ with_key-same (mode_key mode) (label_read mode a) (label_read mode b) h ∙ sym (label_read-with_key mode b)

-- reading makes no label better, and of a label Seal at worst Async
label_read-no_less : (mode : Mode) (label : Label) → severity label ≤ severity (label_read mode label)
label_read-no_less mode (Seal key) = least_severity (label_read mode (Seal key))
label_read-no_less mode Async = omega arith
label_read-no_less mode Run = omega arith
label_read-no_less mode Inst = omega arith
label_read-no_less mode Diverge = omega arith

label_read-seal : (mode : Mode) (key : Attrs) → severity (label_read mode (Seal key)) ≤ 2
label_read-seal mode key = (elim (is_mode_key mode key) as (λ t. is_mode_key mode key ≡ t → severity (label_read mode (Seal key)) ≤ 2) [
  | true ↦ λ e. rw e (omega arith)
  | false ↦ λ e. rw e (omega arith)
]) refl

-- a less severe label is read as one that is no more severe
label_read-le : (mode : Mode) (a b : Label) → severity a < severity b → severity (label_read mode a) ≤ severity (label_read mode b)
label_read-le mode (Seal key) b h = omega (arith, label_read-seal mode key, label_read-no_less mode b)
label_read-le mode Async b h = omega (arith, label_read-no_less mode b)
label_read-le mode Run b h = omega (arith, label_read-no_less mode b)
label_read-le mode Inst b h = omega (arith, label_read-no_less mode b)
label_read-le mode Diverge b h = omega (arith, label_read-no_less mode b)

-- one path

less_or_same : (m n : ℕ) → m ≤ n → (m < n) ⊎ (m ≡ n)
less_or_same m n h = (elim (nat_lt m n) as (λ t. nat_lt m n ≡ t → (m < n) ⊎ (m ≡ n)) [
  | true ↦ λ e. inl (ltb-true m n e)
  | false ↦ λ e. inr (omega (arith, ltb-false m n e))
]) refl

path_good : (a b : Label) (note : Note) (columns : Attrs) (mode : Mode) (fds : List Fd) → severity (label_read mode a) ≤ severity (label_read mode b) → IsAsGood fds (pass_path a note columns mode fds) (pass_path b note columns mode fds)
path_good a b note columns mode fds h = elim (less_or_same _ _ h) [
  | inl less ↦ ascends-lt fds (over mode fds columns note) (over_ascends mode fds columns note) (label_read mode a) (label_read mode b) less
  | inr same ↦ rw (label_read-same mode a b same) (good-refl fds (pass_path b note columns mode fds))
]

-- all paths

list_all-kept : (test : PathLabel → Bool) (before after : List PathLabel) (p q : PathLabel) → (test q ≡ true → test p ≡ true) → list_all test (before ++ q ∷ after) ≡ true → list_all test (before ++ p ∷ after) ≡ true
list_all-kept test [] after p q kept h = both_true (kept (first_so (test q) (list_all test after) h)) (second_so (test q) (list_all test after) h)
list_all-kept test (x ∷ before) after p q kept h = both_true (first_so (test x) (list_all test (before ++ q ∷ after)) h) (list_all-kept test before after p q kept (second_so (test x) (list_all test (before ++ q ∷ after)) h))

is_protected-kept : (mode : Mode) (fds : List Fd) (before after : List PathLabel) (p q : PathLabel) → IsAsGood fds p q → is_protected (before ++ q ∷ after) mode fds ≡ true → is_protected (before ++ p ∷ after) mode fds ≡ true
is_protected-kept mode.Free fds before after p q good h = h
is_protected-kept (mode.Pass key) fds before after p q good h = h
is_protected-kept (mode.Seal key) fds before after p q good h = list_all-kept (is_covered key fds) before after p q (good.covers key) h
is_protected-kept mode.Order fds before after p q good h = h

-- protection makes nothing worse
base_label-le : (kept : Base) → severity (base_label kept) ≤ 3
base_label-le (base.Seal key) = omega arith
base_label-le base.Async = omega arith
base_label-le base.Run = omega arith

settled_read-le : (replicated : Bool) (kept : Base) → severity (settled_read true replicated kept) ≤ severity (settled_read false replicated kept)
settled_read-le true kept = omega (arith, base_label-le kept)
settled_read-le false kept = omega (arith, base_label-le kept)

settled-le : (one other replicated : Bool) (p : PathLabel) → (other ≡ true → one ≡ true) → severity (settled one replicated p) ≤ severity (settled other replicated p)
settled-le true true replicated p h = omega arith
settled-le false false replicated p h = omega arith
settled-le false true replicated p h = (let never = h refl in cc)
settled-le true false replicated (path.Seal key) h = omega arith
settled-le true false replicated path.Async h = omega arith
settled-le true false replicated path.Run h = omega arith
settled-le true false replicated path.Inst h = omega arith
settled-le true false replicated path.Diverge h = omega arith
settled-le true false replicated path.Taint h = omega arith
settled-le true false replicated (path.NdRead gate kept) h = settled_read-le replicated kept

all_no_more-map : (f g : PathLabel → Label) (bound : Label) → ((x : PathLabel) → severity (f x) ≤ severity (g x)) → (paths : List PathLabel) → All (IsNoMore bound) (map g paths) → All (IsNoMore bound) (map f paths)
all_no_more-map f g bound below [] all = all
all_no_more-map f g bound below (x ∷ paths) all = All-cons (IsNoMore bound) (f x) (map f paths)
    (omega (arith, below x, All-head (IsNoMore bound) (g x) (map g paths) all))
    (all_no_more-map f g bound below paths (All-tail (IsNoMore bound) (g x) (map g paths) all))

-- one path label is put in place of another, and the others are settled no worse
all_no_more : (f g : PathLabel → Label) (p q : PathLabel) (bound : Label) → ((x : PathLabel) → severity (f x) ≤ severity (g x)) → severity (f p) ≤ severity (g q) → (before after : List PathLabel) → All (IsNoMore bound) (map g (before ++ q ∷ after)) → All (IsNoMore bound) (map f (before ++ p ∷ after))
all_no_more f g p q bound below here [] after all = All-cons (IsNoMore bound) (f p) (map f after)
    (omega (arith, All-head (IsNoMore bound) (g q) (map g after) all))
    (all_no_more-map f g bound below after (All-tail (IsNoMore bound) (g q) (map g after) all))
all_no_more f g p q bound below here (x ∷ before) after all = All-cons (IsNoMore bound) (f x) (map f (before ++ p ∷ after))
    (omega (arith, below x, All-head (IsNoMore bound) (g x) (map g (before ++ q ∷ after)) all))
    (all_no_more f g p q bound below here before after (All-tail (IsNoMore bound) (g x) (map g (before ++ q ∷ after)) all))

first_worst-map_le : (f : PathLabel → Label) (p : PathLabel) (bound : Label) (before after : List PathLabel) → All (IsNoMore bound) (map f (before ++ p ∷ after)) → severity (first_worst (map f (before ++ p ∷ after))) ≤ severity bound
first_worst-map_le f p bound [] after all = first_worst-no_more bound (f p) (map f after) all
first_worst-map_le f p bound (x ∷ before) after all = first_worst-no_more bound (f x) (map f (before ++ p ∷ after)) all

reconcile-le : (before after : List PathLabel) (p q : PathLabel) (mode : Mode) (replicated : Bool) (fds : List Fd) → IsAsGood fds p q → severity (reconcile (before ++ p ∷ after) mode replicated fds) ≤ severity (reconcile (before ++ q ∷ after) mode replicated fds)
reconcile-le before after p q mode replicated fds good =
    let one = is_protected (before ++ p ∷ after) mode fds in
    let other = is_protected (before ++ q ∷ after) mode fds in
    let bound = reconcile (before ++ q ∷ after) mode replicated fds in
    let kept : other ≡ true → one ≡ true = is_protected-kept mode fds before after p q good in
    let here : severity (settled one replicated p) ≤ severity (settled other replicated q) = omega (arith, good.settles one replicated, settled-le one other replicated q kept) in
    first_worst-map_le (settled one replicated) p bound before after
    (all_no_more (settled one replicated) (settled other replicated) p q bound (λ x. settled-le one other replicated x kept) here before after
    (no_more-first_worst (map (settled other replicated) (before ++ q ∷ after))))

pub monotone_in_read : MonotoneInRead
monotone_in_read before after a b note columns mode replicated fds h =
    reconcile-le before after (pass_path a note columns mode fds) (pass_path b note columns mode fds) mode replicated fds (path_good a b note columns mode fds h)

pub monotone_in_given : MonotoneInGiven
monotone_in_given before after a b note columns mode replicated fds h = monotone_in_read before after a b note columns mode replicated fds (label_read-le mode a b h)
