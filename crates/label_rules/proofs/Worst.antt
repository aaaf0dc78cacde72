-- The label that is computed is the first of greatest severity, and there is one such label.
use Rattle.std.proofs.Common.{◌≡◌, ◌<◌, ◌≤◌, true, false, nat_lt, refl, ap, sym, subst, ◌∙◌, arith, List, [], ◌∷◌, ◌++◌, fold, ◌⊎◌, inl, inr}
use Rattle.std.specs.List.{All}
use Rattle.std.proofs.lemmas.Bool.{ltb-true, ltb-false}
use Rattle.std.proofs.lemmas.List.Elements.{All-nil, All-cons, All-head, All-tail, All-same, All-append, All-weaker}
use Rattle.label_rules.specs.declared.label.Label.{Label}
use Rattle.label_rules.specs.declared.label.Label.TheVariants.{Async}
use Rattle.label_rules.specs.Label.{severity}
use Rattle.label_rules.specs.Laws.{FirstWorstLaw}
use Rattle.label_rules.specs.Reconciliation.{StandsFirstWorst, IsFirstWorst, worse, first_worst}

-- what stands before the first of greatest severity, and what stands after it
abbrev pub IsLess : Label → Label → Type 0
IsLess result other = severity other < severity result

abbrev pub IsNoMore : Label → Label → Type 0
IsNoMore result other = severity other ≤ severity result

-- the second is more severe and is taken, or the first is kept
pub record Taken (a b : Label) : Type 0 where
  pub less : severity a < severity b
  pub same : worse a b ≡ b

pub record Kept (a b : Label) : Type 0 where
  pub no_more : severity b ≤ severity a
  pub same : worse a b ≡ a

worse_cases : (a b : Label) → Taken a b ⊎ Kept a b
worse_cases a b = (elim (nat_lt (severity a) (severity b)) as (λ t. nat_lt (severity a) (severity b) ≡ t → Taken a b ⊎ Kept a b) [
  | true ↦ λ e. inl (record { less = ltb-true _ _ e; same = rw e refl })
  | false ↦ λ e. inr (record { no_more = ltb-false _ _ e; same = rw e refl })
]) refl

fold-worse-le : (start : Label) (labels : List Label) → severity start ≤ severity (fold worse start labels)
fold-worse-le start [] = omega arith
fold-worse-le start (label ∷ labels) = elim (worse_cases start label) [
  | inl taken ↦ rw taken.same (omega (arith, fold-worse-le label labels))
  | inr kept ↦ rw kept.same (fold-worse-le start labels)
]

-- a label that is no more severe than the start makes no difference behind it
stands_behind : (start label result : Label) (labels before after : List Label) → severity label ≤ severity start → start ∷ labels ≡ before ++ result ∷ after → All (IsLess result) before → All (IsNoMore result) after → StandsFirstWorst (start ∷ label ∷ labels) result
stands_behind start label result labels [] after below stands first worst =
    let same : start ≡ result = cc in
    let rest : labels ≡ after = cc in
    let below_too : severity label ≤ severity result = rw (← same) below in
    record {
      before = [];
      after = label ∷ labels;
      stands = ap (λ s. s ∷ label ∷ labels) same;
      first = All-nil (IsLess result);
      worst = All-cons (IsNoMore result) label labels below_too (All-same (IsNoMore result) labels after rest worst);
    }
stands_behind start label result labels (other ∷ before) after below stands first worst =
    let same : start ≡ other = cc in
    let rest : labels ≡ before ++ result ∷ after = cc in
    let less : severity other < severity result = All-head (IsLess result) other before first in
    let start_less : severity start < severity result = rw same less in
    let label_less : severity label < severity result = omega arith in
    record {
      before = start ∷ label ∷ before;
      after = after;
      stands = ap (λ ls. start ∷ label ∷ ls) rest;
      first = All-cons (IsLess result) start (label ∷ before) start_less (All-cons (IsLess result) label before label_less (All-tail (IsLess result) other before first));
      worst = worst;
    }

-- a label that is less severe than all that comes of what is behind it
stands_before : (start label : Label) (labels : List Label) → severity start < severity label → StandsFirstWorst (label ∷ labels) (fold worse label labels) → StandsFirstWorst (start ∷ label ∷ labels) (fold worse label labels)
stands_before start label labels less behind =
    let start_less : severity start < severity (fold worse label labels) = omega (arith, fold-worse-le label labels) in
    record {
      before = start ∷ behind.before;
      after = behind.after;
      stands = ap (λ ls. start ∷ ls) behind.stands;
      first = All-cons (IsLess (fold worse label labels)) start behind.before start_less behind.first;
      worst = behind.worst;
    }

stands_first_worst : (start : Label) (labels : List Label) → StandsFirstWorst (start ∷ labels) (fold worse start labels)
stands_first_worst start [] = record {
  before = [];
  after = [];
  stands = refl;
  first = All-nil (IsLess start);
  worst = All-nil (IsNoMore start);
}
stands_first_worst start (label ∷ labels) = elim (worse_cases start label) [
  | inl taken ↦ rw taken.same (stands_before start label labels taken.less (stands_first_worst label labels))
  | inr kept ↦ rw kept.same (let behind = stands_first_worst start labels in
      stands_behind start label (fold worse start labels) labels behind.before behind.after kept.no_more behind.stands behind.first behind.worst)
]

pub first_worst-is : (labels : List Label) → IsFirstWorst labels (first_worst labels)
first_worst-is [] = refl
first_worst-is (label ∷ labels) = stands_first_worst label labels

All-middle : {X : Type 0} (P : X → Type 0) (before : List X) (x : X) (after : List X) → All P (before ++ x ∷ after) → P x
All-middle P [] x after all = All-head P x after all
All-middle P (y ∷ before) x after all = All-middle P before x after (All-tail P y (before ++ x ∷ after) all)

-- no label is more severe than the first of greatest severity
pub no_more-first_worst : (labels : List Label) → All (IsNoMore (first_worst labels)) labels
no_more-first_worst [] = All-nil (IsNoMore Async)
no_more-first_worst (label ∷ labels) =
    let worst = fold worse label labels in
    let stands = stands_first_worst label labels in
    All-same (IsNoMore worst) (label ∷ labels) (stands.before ++ worst ∷ stands.after) stands.stands
    (All-append (IsNoMore worst) stands.before (worst ∷ stands.after)
    (All-weaker (IsLess worst) (IsNoMore worst) (λ other less. omega arith) stands.before stands.first)
    (All-cons (IsNoMore worst) worst stands.after (omega arith) stands.worst))

-- what no label of a list exceeds, the first of greatest severity doesn't either
pub first_worst-no_more : (bound label : Label) (labels : List Label) → All (IsNoMore bound) (label ∷ labels) → severity (first_worst (label ∷ labels)) ≤ severity bound
first_worst-no_more bound label labels all =
    let worst = fold worse label labels in
    let stands = stands_first_worst label labels in
    All-middle (IsNoMore bound) stands.before worst stands.after (All-same (IsNoMore bound) (stands.before ++ worst ∷ stands.after) (label ∷ labels) (sym stands.stands) all)

-- a list has one first label of greatest severity
same_place : (before before' after after' : List Label) (a b : Label) → before ++ a ∷ after ≡ before' ++ b ∷ after' → All (IsLess a) before → All (IsNoMore a) after → All (IsLess b) before' → All (IsNoMore b) after' → a ≡ b
same_place [] [] after after' a b same less no_more less' no_more' = cc
same_place [] (x ∷ before') after after' a b same less no_more less' no_more' =
    let head : a ≡ x = cc in
    let tail : after ≡ before' ++ b ∷ after' = cc in
    let below : severity x < severity b = All-head (IsLess b) x before' less' in
    let above : severity b ≤ severity a = All-middle (IsNoMore a) before' b after' (All-same (IsNoMore a) (before' ++ b ∷ after') after (sym tail) no_more) in
    let below_too : severity a < severity b = rw head below in
    absurd (omega arith)
same_place (x ∷ before) [] after after' a b same less no_more less' no_more' =
    let head : x ≡ b = cc in
    let tail : before ++ a ∷ after ≡ after' = cc in
    let below : severity x < severity a = All-head (IsLess a) x before less in
    let above : severity a ≤ severity b = All-middle (IsNoMore b) before a after (All-same (IsNoMore b) (before ++ a ∷ after) after' tail no_more') in
    let below_too : severity b < severity a = rw (← head) below in
    absurd (omega arith)
same_place (x ∷ before) (y ∷ before') after after' a b same less no_more less' no_more' =
    let tail : before ++ a ∷ after ≡ before' ++ b ∷ after' = cc in
    same_place before before' after after' a b tail (All-tail (IsLess a) x before less) no_more (All-tail (IsLess b) y before' less') no_more'

stands-same : (labels : List Label) (a b : Label) → StandsFirstWorst labels a → StandsFirstWorst labels b → a ≡ b
stands-same labels a b one other = same_place one.before other.before one.after other.after a b (sym one.stands ∙ other.stands) one.first one.worst other.first other.worst

pub first_worst-same : (labels : List Label) (label : Label) → IsFirstWorst labels label → label ≡ first_worst labels
first_worst-same [] label is = is
first_worst-same (first ∷ rest) label is = stands-same (first ∷ rest) label (fold worse first rest) is (stands_first_worst first rest)

pub first_worst_law : FirstWorstLaw
first_worst_law labels label = (first_worst-same labels label, λ same. subst (IsFirstWorst labels) (sym same) (first_worst-is labels))
