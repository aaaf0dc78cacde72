-- What is taken from a bench and what is left, by places, by flags and by kinds.
use Rattle.std.proofs.Common.{◌≡◌, ◌↔◌, ℕ, ◌+◌, ◌≤◌, ◌<◌, ◌||◌, ◌&&◌, Bool, true, false, cond, List, [], ◌∷◌, ◌++◌, Option, Some, None, IsTrue, IsSome, map, replicate, zero, suc, sym, ◌∙◌, length, take, drop, remove, position, refl, ap, arith, get_or, is_none, drop-cons, add-one, append_assoc, append-nil, subst, inl, inr, option_map, rules}
use Rattle.std.specs.List.{list_any, position_from, flat_map, range_with_len}
use Rattle.std.specs.List.Sorted.{IsPermutation}
use Rattle.std.proofs.lemmas.Bool.{cases_Bool, eqb-true}
use Rattle.std.proofs.lemmas.Grind.{flat_map-append}
use Rattle.std.proofs.lemmas.List.{map-append, map-set, length-map, take_more, take_more_set, take_all, get_or_default}
use Rattle.std.proofs.lemmas.List.Sorted.{IsPermutation-refl, IsPermutation-trans, IsPermutation-append_right, IsPermutation-append_left, IsPermutation-cons, IsPermutation-append_comm, IsPermutation-map}
use Rattle.std.proofs.lemmas.Iterator.Adapters.{position_from-zero}
use Rattle.std.proofs.Math.ListN.{set}
use Rattle.bloom_forms.specs.declared.program.Program.{Program}
use Rattle.bloom_forms.specs.Program.{IsStock}
use Rattle.bloom_forms.proofs.Reach.ProperLemmas.{proper_is_stock}
use Rattle.blz_value.proofs.MembersInOrder.{from_range}
use Rattle.blz_value.specs.Members.{Has}
use Rattle.blz_value.proofs.Membership.{Has-from_flat_map}
use Rattle.bloom_eval.specs.declared.kind.ProgramKind.{ProgramKind}
use Rattle.bloom_eval.specs.declared.kind.ProgramKind.TheVariants.{Module, Split, Latest, Number}
use Rattle.bloom_eval.specs.Kind.{kind_of}
use Rattle.topo_forms.specs.Valid.{IsValid}
use Rattle.blz_value.specs.NumberSets.{below}
use Rattle.blz_value.proofs.Ranges.{range_more}
use Rattle.topo_forms.specs.View.{View, Component, no_component, program_of, replicas_of, component_numbers}
use Rattle.sched_net.specs.Bench.{number_of_kind, same_kind, fits_kind, fits_component, without_first, first_passing, taken_by, left_by, first_short, instance_components, first_without_body}
use Rattle.sched_net.specs.Code.Flags.{flagged, claimed, may_claim}

-- ---- kinds

-- the kind with a number
kind_numbered : ℕ → ProgramKind
kind_numbered zero = Module
kind_numbered (suc zero) = Split
kind_numbered (suc (suc zero)) = Latest
kind_numbered (suc (suc (suc n))) = Number

numbered_back : (kind : ProgramKind) → kind_numbered (number_of_kind kind) ≡ kind
unfolding kind_numbered
numbered_back Module = refl
numbered_back Split = refl
numbered_back Latest = refl
numbered_back Number = refl

same_itself : (kind : ProgramKind) → same_kind kind kind ≡ true
same_itself Module = refl
same_itself Split = refl
same_itself Latest = refl
same_itself Number = refl

pub same_kind_is : (a b : ProgramKind) → same_kind a b ≡ true → a ≡ b
same_kind_is a b e =
    let numbers : number_of_kind a ≡ number_of_kind b = eqb-true (number_of_kind a) (number_of_kind b) e in
    sym (numbered_back a) ∙ ap kind_numbered numbers ∙ numbered_back b

-- a test of kinds
pub tests_kinds : (answer : Bool) (kind wanted : ProgramKind) → IsTrue answer ↔ (wanted ≡ kind) → answer ≡ same_kind kind wanted
tests_kinds true kind wanted h = sym (subst (λ k. same_kind kind k ≡ true) (sym (h.0 refl)) (same_itself kind))
tests_kinds false kind wanted h = elim (cases_Bool (same_kind kind wanted)) [
  | inl is ↦ let no : false ≡ true = h.1 (sym (same_kind_is kind wanted is)) in cc
  | inr isnt ↦ sym isnt
]

pub fits_is : (program : Option Program) (kind : ProgramKind) → fits_kind program kind ≡ true → Some kind ≡ option_map kind_of program
fits_is None kind e = cc
fits_is (Some p) kind e = ap (λ k. Some k) (same_kind_is kind (kind_of p) e)

-- ---- the first that passes, by its place

position_from-later : {X : Type 0} (p : X → Bool) (n : ℕ) (xs : List X) (i : ℕ) → position_from p n xs ≡ Some i → n ≤ i
position_from-later p n [] i e = cc
position_from-later p n (x ∷ xs) i e = elim (p x) as (λ v. cond v (Some n) (position_from p (n + 1) xs) ≡ Some i → n ≤ i) [
  | true ↦ λ h. let m : n ≡ i = cc in omega arith
  | false ↦ λ h. omega (arith, position_from-later p (n + 1) xs i h)
] e

removes_from : {X : Type 0} (p : X → Bool) (n : ℕ) (xs : List X) (j : ℕ) → position_from p n xs ≡ Some (n + j) → remove xs j ≡ without_first p xs
removes_from p n [] j e = cc
removes_from p n (x ∷ xs) zero e = elim (p x) as (λ v. cond v (Some n) (position_from p (n + 1) xs) ≡ Some (n + 0) → remove (x ∷ xs) 0 ≡ cond v xs (x ∷ without_first p xs)) [
  | true ↦ λ h. refl
  | false ↦ λ h. absurd (omega (arith, position_from-later p (n + 1) xs (n + 0) h))
] e
removes_from p n (x ∷ xs) (suc j) e = elim (p x) as (λ v. cond v (Some n) (position_from p (n + 1) xs) ≡ Some (n + suc j) → remove (x ∷ xs) (suc j) ≡ cond v xs (x ∷ without_first p xs)) [
  | true ↦ λ h. let m : n ≡ n + suc j = cc in absurd (omega arith)
  | false ↦ λ h. let m : n + suc j ≡ n + 1 + j = omega arith in ap (λ t. x ∷ t) (removes_from p (n + 1) xs j (rw m at h))
] e

passing_from : {X : Type 0} (p : X → Bool) (n : ℕ) (xs : List X) (j : ℕ) (q : X) → position_from p n xs ≡ Some (n + j) → q ≡ get_or xs j q → q ∷ [] ≡ first_passing p xs
passing_from p n [] j q e is = cc
passing_from p n (x ∷ xs) zero q e is = elim (p x) as (λ v. cond v (Some n) (position_from p (n + 1) xs) ≡ Some (n + 0) → q ∷ [] ≡ cond v (x ∷ []) (first_passing p xs)) [
  | true ↦ λ h. ap (λ t. t ∷ []) is
  | false ↦ λ h. absurd (omega (arith, position_from-later p (n + 1) xs (n + 0) h))
] e
passing_from p n (x ∷ xs) (suc j) q e is = elim (p x) as (λ v. cond v (Some n) (position_from p (n + 1) xs) ≡ Some (n + suc j) → q ∷ [] ≡ cond v (x ∷ []) (first_passing p xs)) [
  | true ↦ λ h. let m : n ≡ n + suc j = cc in absurd (omega arith)
  | false ↦ λ h. let m : n + suc j ≡ n + 1 + j = omega arith in passing_from p (n + 1) xs j q (rw m at h) is
] e

none_passing_from : {X : Type 0} (p : X → Bool) (n : ℕ) (xs : List X) → position_from p n xs ≡ None → (first_passing p xs ≡ []) × (without_first p xs ≡ xs)
none_passing_from p n [] e = (refl, refl)
none_passing_from p n (x ∷ xs) e = elim (p x) as (λ v. cond v (Some n) (position_from p (n + 1) xs) ≡ None → (cond v (x ∷ []) (first_passing p xs) ≡ []) × (cond v xs (x ∷ without_first p xs) ≡ x ∷ xs)) [
  | true ↦ λ h. cc
  | false ↦ λ h. let r = none_passing_from p (n + 1) xs h in (r.0, ap (λ t. x ∷ t) r.1)
] e

-- a place is found: what stands there is the first that passes, and without it the others are left
pub takes_first : {X : Type 0} (p : X → Bool) (xs ys : List X) (r : Option ℕ) (i : ℕ) (x : X) → ys ≡ xs → r ≡ position p ys → r ≡ Some i → x ≡ get_or xs i x
    → (x ∷ [] ≡ first_passing p xs) × (remove xs i ≡ without_first p xs)
takes_first p xs ys r i x same is some at =
    let m : 0 + i ≡ i = omega arith in
    let found : position_from p 0 xs ≡ Some (0 + i) = rw m (sym (position_from-zero p xs) ∙ ap (position p) (sym same) ∙ sym is ∙ some) in
    (passing_from p 0 xs i x found at, removes_from p 0 xs i found)

-- none is found
pub takes_none : {X : Type 0} (p : X → Bool) (xs ys : List X) (r : Option ℕ) → ys ≡ xs → r ≡ position p ys → r ≡ None → (first_passing p xs ≡ []) × (without_first p xs ≡ xs)
takes_none p xs ys r same is none = none_passing_from p 0 xs (sym (position_from-zero p xs) ∙ ap (position p) (sym same) ∙ sym is ∙ none)

-- where one passes there is a first, which passes, and one less is left
pub first_is : {X : Type 0} (p : X → Bool) (xs : List X) → list_any p xs ≡ true → (x : X) × (first_passing p xs ≡ x ∷ []) × (p x ≡ true) × (length (without_first p xs) + 1 ≡ length xs)
first_is p [] e = cc
first_is {X} p (x ∷ xs) e = elim (p x) as (λ v. p x ≡ v → (v || list_any p xs) ≡ true → (q : X) × (cond v (x ∷ []) (first_passing p xs) ≡ q ∷ []) × (p q ≡ true) × (length (cond v xs (x ∷ without_first p xs)) + 1 ≡ suc (length xs))) [
  | true ↦ λ is h. (x, refl, is, omega arith)
  | false ↦ λ is h. let r = first_is p xs h in (r.0, r.1, r.2, omega (arith, r.3))
] refl e

-- ---- what is taken in turn

short_step : {X : Type 0} (fit : ℕ → X → Bool) (c : ℕ) (cs : List ℕ) (xs : List X) → first_short fit (c ∷ cs) xs ≡ None
    → (list_any (fit c) xs ≡ true) × (first_short fit cs (without_first (fit c) xs) ≡ None)
short_step fit c cs xs h =
    elim (list_any (fit c) xs) as (λ v. cond v (first_short fit cs (without_first (fit c) xs)) (Some c) ≡ None → (v ≡ true) × (first_short fit cs (without_first (fit c) xs) ≡ None)) [
      | true ↦ λ q. (refl, q)
      | false ↦ λ q. cc
    ] h

-- the rest of a list from a place on
rest_is : (cs : List ℕ) (i c : ℕ) → i < length cs → c ≡ get_or cs i c → drop i cs ≡ c ∷ drop (i + 1) cs
rest_is cs i c below at = rw (drop-cons cs i c, add-one, ← at) refl

-- while none is short, there is one for the next
pub enough : {X : Type 0} (fit : ℕ → X → Bool) (cs : List ℕ) (i c : ℕ) (xs : List X) → i < length cs → c ≡ get_or cs i c → first_short fit (drop i cs) xs ≡ None
    → (list_any (fit c) xs ≡ true) × (first_short fit (drop (i + 1) cs) (without_first (fit c) xs) ≡ None)
enough fit cs i c xs below at h = short_step fit c (drop (i + 1) cs) xs (rw (rest_is cs i c below at) at h)

-- one more is taken
pub taken_more : {X : Type 0} (fit : ℕ → X → Bool) (cs : List ℕ) (i c : ℕ) (first shells xs ys : List X) (x : X) → i < length cs → c ≡ get_or cs i c
    → shells ++ taken_by fit (drop i cs) xs ≡ first → x ∷ [] ≡ first_passing (fit c) xs → ys ≡ without_first (fit c) xs
    → (shells ++ x ∷ []) ++ taken_by fit (drop (i + 1) cs) ys ≡ first
taken_more fit cs i c first shells xs ys x below at before taken left =
    let split : taken_by fit (drop i cs) xs ≡ first_passing (fit c) xs ++ taken_by fit (drop (i + 1) cs) (without_first (fit c) xs) = ap (λ l. taken_by fit l xs) (rest_is cs i c below at) in
    append_assoc shells (x ∷ []) (taken_by fit (drop (i + 1) cs) ys)
    ∙ ap (λ l. shells ++ ((x ∷ []) ++ taken_by fit (drop (i + 1) cs) l)) left
    ∙ ap (λ l. shells ++ (l ++ taken_by fit (drop (i + 1) cs) (without_first (fit c) xs))) taken
    ∙ ap (λ l. shells ++ l) (sym split)
    ∙ before

pub left_more : {X : Type 0} (fit : ℕ → X → Bool) (cs : List ℕ) (i c : ℕ) (last xs ys : List X) → i < length cs → c ≡ get_or cs i c
    → left_by fit (drop i cs) xs ≡ last → ys ≡ without_first (fit c) xs → left_by fit (drop (i + 1) cs) ys ≡ last
left_more fit cs i c last xs ys below at before left =
    ap (left_by fit (drop (i + 1) cs)) left ∙ sym (ap (λ l. left_by fit l xs) (rest_is cs i c below at)) ∙ before

-- what is taken has the kinds that are wanted
pub taken_kinds : {X : Type 0} (v : View) (kind : X → ProgramKind) (cs : List ℕ) (xs : List X) → first_short (fits_component v kind) cs xs ≡ None
    → map (λ x. Some (kind x)) (taken_by (fits_component v kind) cs xs) ≡ map (λ c. option_map kind_of (program_of v c)) cs
taken_kinds v kind [] xs e = refl
taken_kinds {X} v kind (c ∷ cs) xs e =
    let fit : ℕ → X → Bool = fits_component v kind in
    let h = short_step fit c cs xs e in
    let one = first_is (fit c) xs h.0 in
    let rest : List X = taken_by fit cs (without_first (fit c) xs) in
    ap (λ l. map (λ x. Some (kind x)) (l ++ rest)) one.1
    ∙ ap (λ k. k ∷ map (λ x. Some (kind x)) rest) (fits_is (program_of v c) (kind one.0) one.2)
    ∙ ap (λ l. option_map kind_of (program_of v c) ∷ l) (taken_kinds v kind cs (without_first (fit c) xs) h.1)

-- what is left and what is taken are together what was there
one_taken : {X : Type 0} (p : X → Bool) (xs : List X) → IsPermutation xs (first_passing p xs ++ without_first p xs)
one_taken p [] = IsPermutation-refl []
one_taken {X} p (x ∷ xs) = elim (p x) as (λ v. IsPermutation (x ∷ xs) (cond v (x ∷ []) (first_passing p xs) ++ cond v xs (x ∷ without_first p xs))) [
  | true ↦ IsPermutation-refl (x ∷ xs)
  | false ↦ moved (first_passing p xs) (without_first p xs) (one_taken p xs)
]
  where
    moved : (fs ws : List X) → IsPermutation xs (fs ++ ws) → IsPermutation (x ∷ xs) (fs ++ x ∷ ws)
    moved fs ws h =
        IsPermutation-trans (x ∷ xs) (x ∷ (fs ++ ws)) (fs ++ x ∷ ws) (IsPermutation-cons x xs (fs ++ ws) h)
        (subst (λ l. IsPermutation ((x ∷ fs) ++ ws) l) (append_assoc fs (x ∷ []) ws) (IsPermutation-append_left ws (x ∷ fs) (fs ++ x ∷ []) (IsPermutation-append_comm (x ∷ []) fs)))

pub all_taken : {X : Type 0} (fit : ℕ → X → Bool) (cs : List ℕ) (xs : List X) → IsPermutation xs (left_by fit cs xs ++ taken_by fit cs xs)
all_taken fit [] xs = subst (λ l. IsPermutation xs l) (sym (append-nil xs)) (IsPermutation-refl xs)
all_taken fit (c ∷ cs) xs =
    let one = first_passing (fit c) xs in
    let others = without_first (fit c) xs in
    let left = left_by fit cs others in
    let taken = taken_by fit cs others in
    IsPermutation-trans xs (one ++ others) (left ++ (one ++ taken)) (one_taken (fit c) xs)
    (IsPermutation-trans (one ++ others) (one ++ (left ++ taken)) (left ++ (one ++ taken)) (IsPermutation-append_right one others (left ++ taken) (all_taken fit cs others))
    (subst (λ l. IsPermutation l (left ++ (one ++ taken))) (append_assoc one left taken)
    (subst (λ l. IsPermutation ((one ++ left) ++ taken) l) (append_assoc left one taken) (IsPermutation-append_left taken (one ++ left) (left ++ one) (IsPermutation-append_comm one left)))))

-- shells of these kinds that are put behind those that are left
pub same_kinds : {X K : Type 0} (kind : X → K) (fit : ℕ → X → Bool) (cs : List ℕ) (xs bench shells loaded after : List X) → bench ≡ left_by fit cs xs → shells ≡ taken_by fit cs xs → map kind loaded ≡ map kind shells → after ≡ bench ++ loaded
    → IsPermutation (map kind xs) (map kind after)
same_kinds kind fit cs xs bench shells loaded after left taken kinds put =
    subst (λ l. IsPermutation (map kind xs) l)
    (map-append kind (left_by fit cs xs) (taken_by fit cs xs)
    ∙ ap (λ l. map kind (left_by fit cs xs) ++ l) (ap (map kind) (sym taken) ∙ sym kinds)
    ∙ ap (λ l. map kind l ++ map kind loaded) (sym left)
    ∙ sym (map-append kind bench loaded)
    ∙ ap (map kind) (sym put))
    (IsPermutation-map kind xs (left_by fit cs xs ++ taken_by fit cs xs) (all_taken fit cs xs))

-- ---- flags

pub claimed_leaves : {X : Type 0} (p : X → Bool) (free : List Bool) (xs : List X) → flagged (claimed free (map p xs)) xs ≡ without_first p (flagged free xs)
claimed_leaves p [] xs = refl
claimed_leaves p (f ∷ fs) [] = refl
claimed_leaves {X = X} p (true ∷ fs) (x ∷ xs) = elim (p x) as (λ v. flagged (cond v (false ∷ fs) (true ∷ claimed fs (map p xs))) (x ∷ xs) ≡ cond v (flagged fs xs) (x ∷ without_first p (flagged fs xs))) [
  | true ↦ refl
  | false ↦ ap (λ (t : List X). x ∷ t) (claimed_leaves p fs xs)
]
claimed_leaves p (false ∷ fs) (x ∷ xs) = claimed_leaves p fs xs

pub may_claim_is : {X : Type 0} (p : X → Bool) (free : List Bool) (xs : List X) → may_claim free (map p xs) ≡ list_any p (flagged free xs)
may_claim_is p [] xs = refl
may_claim_is p (f ∷ fs) [] = refl
may_claim_is p (true ∷ fs) (x ∷ xs) = elim (p x) as (λ v. cond v true (may_claim fs (map p xs)) ≡ (v || list_any p (flagged fs xs))) [
  | true ↦ refl
  | false ↦ may_claim_is p fs xs
]
may_claim_is p (false ∷ fs) (x ∷ xs) = may_claim_is p fs xs

pub all_flagged : {X : Type 0} (n : ℕ) (xs : List X) → n ≡ length xs → flagged (replicate n true) xs ≡ xs
all_flagged zero [] e = refl
all_flagged zero (x ∷ xs) e = absurd (omega arith)
all_flagged (suc n) [] e = absurd (omega arith)
all_flagged {X = X} (suc n) (x ∷ xs) e = ap (λ (t : List X). x ∷ t) (all_flagged n xs (omega arith))

pub claimed_length : (free fit : List Bool) → length (claimed free fit) ≡ length free
claimed_length [] fit = refl
claimed_length (f ∷ fs) [] = refl
claimed_length (f ∷ fs) (t ∷ ts) = elim (f && t) as (λ v. length (cond v (false ∷ fs) (f ∷ claimed fs ts)) ≡ suc (length fs)) [
  | true ↦ refl
  | false ↦ ap suc (claimed_length fs ts)
]

-- the first place that is free and fits
pub claims_at : (free fit : List Bool) (i : ℕ) → i < length free → i < length fit → ((k : ℕ) → k < i → (get_or free k false && get_or fit k false) ≡ false)
    → get_or free i false ≡ true → get_or fit i false ≡ true → (set free i false ≡ claimed free fit) × (may_claim free fit ≡ true)
claims_at [] fit i a b none f t = absurd (omega arith)
claims_at (f ∷ fs) [] i a b none g t = absurd (omega arith)
claims_at (f ∷ fs) (t ∷ ts) zero a b none g h = (rw (g, h) refl, rw (g, h) refl)
claims_at (f ∷ fs) (t ∷ ts) (suc i) a b none g h =
    let r = claims_at fs ts i (omega arith) (omega arith) (λ k below. none (suc k) (omega arith)) g h in
    let first : (f && t) ≡ false = none 0 (omega arith) in
    (rw first (ap (λ (x : List Bool). f ∷ x) r.0), rw first r.1)

pub claims_none : (free fit : List Bool) → length fit ≡ length free → ((k : ℕ) → k < length free → (get_or free k false && get_or fit k false) ≡ false) → (free ≡ claimed free fit) × (may_claim free fit ≡ false)
claims_none [] fit e none = (refl, refl)
claims_none (f ∷ fs) [] e none = absurd (omega arith)
claims_none (f ∷ fs) (t ∷ ts) e none =
    let r = claims_none fs ts (omega arith) (λ k below. none (suc k) (omega arith)) in
    let first : (f && t) ≡ false = none 0 (omega arith) in
    (rw first (ap (λ (x : List Bool). f ∷ x) r.0), rw first r.1)

short_is : {X : Type 0} (fit : ℕ → X → Bool) (cs : List ℕ) (i c : ℕ) (xs : List X) (b : Bool) → i < length cs → c ≡ get_or cs i c → list_any (fit c) xs ≡ b
    → first_short fit (drop i cs) xs ≡ cond b (first_short fit (drop (i + 1) cs) (without_first (fit c) xs)) (Some c)
short_is fit cs i c xs b below at is = rw (rest_is cs i c below at, is) refl

-- the check goes on where one was found
pub checks_on : {X : Type 0} (fit : ℕ → X → Bool) (cs : List ℕ) (i c : ℕ) (xs : List X) (free flags given later : List Bool) (found : Bool) → i < length cs → c ≡ get_or cs i c
    → flags ≡ map (fit c) xs → given ≡ flags → later ≡ claimed free given → found ≡ may_claim free given → found ≡ true
    → first_short fit (drop i cs) (flagged free xs) ≡ first_short fit (drop (i + 1) cs) (flagged later xs)
checks_on fit cs i c xs free flags given later found below at flags_are given_is later_is found_is was =
    let any : list_any (fit c) (flagged free xs) ≡ true = sym (may_claim_is (fit c) free xs) ∙ rw (← flags_are, ← given_is) (sym found_is ∙ was) in
    let left : flagged later xs ≡ without_first (fit c) (flagged free xs) = rw (later_is, given_is, flags_are) (claimed_leaves (fit c) free xs) in
    short_is fit cs i c (flagged free xs) true below at any ∙ rw left refl

-- and ends where none was
pub checks_end : {X : Type 0} (fit : ℕ → X → Bool) (cs : List ℕ) (i c : ℕ) (xs : List X) (free flags given : List Bool) (found : Bool) → i < length cs → c ≡ get_or cs i c
    → flags ≡ map (fit c) xs → given ≡ flags → found ≡ may_claim free given → found ≡ false
    → first_short fit (drop i cs) (flagged free xs) ≡ Some c
checks_end fit cs i c xs free flags given found below at flags_are given_is found_is was =
    short_is fit cs i c (flagged free xs) false below at
    (sym (may_claim_is (fit c) free xs) ∙ rw (← flags_are, ← given_is) (sym found_is ∙ was))

-- ---- loading

-- an element replaced, seen through f
pub map_set : {A B : Type 0} (f : A → B) (xs : List A) (i : ℕ) (y : A) → map f (set xs i y) ≡ set (map f xs) i (f y)
map_set f xs i y = map-set f xs i y

-- what a valid topology runs can be loaded
pub stock_of : (v : View) (c : ℕ) (p : Program) → IsValid v → c < length v.components → Some p ≡ program_of v c → IsStock p
stock_of v c p valid there is = proper_is_stock p ((valid.components c there).runs p (sym is)).proper

-- the component of a shell's place has its kind
pub kind_at_place : {X : Type 0} (v : View) (kind : X → ProgramKind) (cs : List ℕ) (xs : List X) (i c : ℕ) (p : Program) (d : X) → map (λ x. Some (kind x)) xs ≡ map (λ n. option_map kind_of (program_of v n)) cs
    → i < length cs → c ≡ get_or cs i c → Some p ≡ program_of v c → kind (get_or xs i d) ≡ kind_of p
kind_at_place v kind [] xs i c p d same within at is = absurd (omega (arith, within))
kind_at_place v kind (n ∷ cs) [] i c p d same within at is = cc
kind_at_place v kind (n ∷ cs) (x ∷ xs) zero c p d same within at is =
    let first : Some (kind x) ≡ option_map kind_of (program_of v n) = cc in
    some_is (kind x) (kind_of p) (first ∙ ap (λ k. option_map kind_of (program_of v k)) (sym at) ∙ ap (option_map kind_of) (sym is))
  where
    some_is : (a b : ProgramKind) → Some a ≡ Some b → a ≡ b
    some_is a b e = cc
kind_at_place v kind (n ∷ cs) (x ∷ xs) (suc i) c p d same within at is =
    let rest : map (λ y. Some (kind y)) xs ≡ map (λ k. option_map kind_of (program_of v k)) cs = cc in
    kind_at_place v kind cs xs i c p d rest (omega (arith, within)) at is

pub same_some_kinds : {X : Type 0} (kind : X → ProgramKind) (xs ys : List X) → map kind xs ≡ map kind ys → map (λ x. Some (kind x)) xs ≡ map (λ x. Some (kind x)) ys
same_some_kinds {X} kind xs ys e = sym (twice xs) ∙ ap (map (λ k. Some k)) e ∙ twice ys
  where
    twice : (zs : List X) → map (λ (k : ProgramKind). Some k) (map kind zs) ≡ map (λ x. Some (kind x)) zs
    twice [] = refl
    twice (z ∷ zs) = ap (λ l. Some (kind z) ∷ l) (twice zs)

-- ---- the same, where what a component runs is at hand

-- the default of a read doesn't matter
at_own : (cs : List ℕ) (i : ℕ) → i < length cs → get_or cs i 0 ≡ get_or cs i (get_or cs i 0)
at_own cs i within = get_or_default cs i 0 (get_or cs i 0) within

module _ {X : Type 0} (v : View) (kind : X → ProgramKind) (cs : List ℕ) (i : ℕ) (p : Program) (within : i < length cs) (runs : Some p ≡ program_of v (get_or cs i 0)) where
  same_test : (xs : List X) → map (λ x. fits_kind (Some p) (kind x)) xs ≡ map (fits_component v kind (get_or cs i 0)) xs
  same_test xs = ap (λ o. map (λ x. fits_kind o (kind x)) xs) runs

  pub goes_on_by : (xs : List X) (free flags given later : List Bool) (found : Bool) → flags ≡ map (λ x. fits_kind (Some p) (kind x)) xs → given ≡ flags → later ≡ claimed free given → found ≡ may_claim free given → found ≡ true
      → first_short (fits_component v kind) (drop i cs) (flagged free xs) ≡ first_short (fits_component v kind) (drop (i + 1) cs) (flagged later xs)
  goes_on_by xs free flags given later found are is after said was =
      checks_on (fits_component v kind) cs i (get_or cs i 0) xs free flags given later found within (at_own cs i within) (are ∙ same_test xs) is after said was

  pub ends_by : (xs : List X) (free flags given : List Bool) (found : Bool) → flags ≡ map (λ x. fits_kind (Some p) (kind x)) xs → given ≡ flags → found ≡ may_claim free given → found ≡ false
      → first_short (fits_component v kind) (drop i cs) (flagged free xs) ≡ Some (get_or cs i 0)
  ends_by xs free flags given found are is said was =
      checks_end (fits_component v kind) cs i (get_or cs i 0) xs free flags given found within (at_own cs i within) (are ∙ same_test xs) is said was

  -- there is one for the next
  pub enough_by : (xs : List X) → first_short (fits_component v kind) (drop i cs) xs ≡ None → (list_any (λ x. fits_kind (Some p) (kind x)) xs ≡ true) × (first_short (fits_component v kind) (drop (i + 1) cs) (without_first (λ x. fits_kind (Some p) (kind x)) xs) ≡ None)
  enough_by xs none =
      let r = enough (fits_component v kind) cs i (get_or cs i 0) xs within (at_own cs i within) none in (
        ap (λ o. list_any (λ x. fits_kind o (kind x)) xs) runs ∙ r.0,
        ap (λ o. first_short (fits_component v kind) (drop (i + 1) cs) (without_first (λ x. fits_kind o (kind x)) xs)) runs ∙ r.1,
      )

  -- so none can't be taken
  pub never_none : (xs : List X) (r : Option X) → first_short (fits_component v kind) (drop i cs) xs ≡ None → r ≡ None → [] ≡ first_passing (λ x. fits_kind (Some p) (kind x)) xs → ⊥
  never_none xs r none is taken =
      let one = first_is (λ x. fits_kind (Some p) (kind x)) xs (enough_by xs none).0 in
      let no : [] ≡ one.0 ∷ [] = taken ∙ one.1 in cc

  pub taken_by_one : (first shells now xs ys : List X) (x : X) → shells ++ taken_by (fits_component v kind) (drop i cs) xs ≡ first
      → x ∷ [] ≡ first_passing (λ y. fits_kind (Some p) (kind y)) xs → ys ≡ without_first (λ y. fits_kind (Some p) (kind y)) xs → now ≡ shells ++ x ∷ []
      → now ++ taken_by (fits_component v kind) (drop (i + 1) cs) ys ≡ first
  taken_by_one first shells now xs ys x before taken left put =
      ap (λ l. l ++ taken_by (fits_component v kind) (drop (i + 1) cs) ys) put
      ∙ taken_more (fits_component v kind) cs i (get_or cs i 0) first shells xs ys x within (at_own cs i within) before
      (taken ∙ ap (λ o. first_passing (λ y. fits_kind o (kind y)) xs) runs) (left ∙ ap (λ o. without_first (λ y. fits_kind o (kind y)) xs) runs)

  pub left_by_one : (last xs ys : List X) → left_by (fits_component v kind) (drop i cs) xs ≡ last → ys ≡ without_first (λ y. fits_kind (Some p) (kind y)) xs → left_by (fits_component v kind) (drop (i + 1) cs) ys ≡ last
  left_by_one last xs ys before left =
      left_more (fits_component v kind) cs i (get_or cs i 0) last xs ys within (at_own cs i within) before (left ∙ ap (λ o. without_first (λ y. fits_kind o (kind y)) xs) runs)

  pub none_short_by : (xs ys : List X) → first_short (fits_component v kind) (drop i cs) xs ≡ None → ys ≡ without_first (λ y. fits_kind (Some p) (kind y)) xs → first_short (fits_component v kind) (drop (i + 1) cs) ys ≡ None
  none_short_by xs ys none left = ap (first_short (fits_component v kind) (drop (i + 1) cs)) left ∙ (enough_by xs none).1

  pub one_less_by : (xs ys : List X) → first_short (fits_component v kind) (drop i cs) xs ≡ None → ys ≡ without_first (λ y. fits_kind (Some p) (kind y)) xs → length ys + 1 ≡ length xs
  one_less_by xs ys none left = ap (λ l. length l + 1) left ∙ (first_is (λ x. fits_kind (Some p) (kind x)) xs (enough_by xs none).0).3

pub taken_kinds_by : {X : Type 0} (v : View) (kind : X → ProgramKind) (cs : List ℕ) (xs shells : List X) → shells ≡ taken_by (fits_component v kind) cs xs → first_short (fits_component v kind) cs xs ≡ None
    → map (λ x. Some (kind x)) shells ≡ map (λ c. option_map kind_of (program_of v c)) cs
taken_kinds_by v kind cs xs shells taken none = ap (map (λ x. Some (kind x))) taken ∙ taken_kinds v kind cs xs none

pub kind_by_place : {X : Type 0} (v : View) (kind : X → ProgramKind) (cs : List ℕ) (xs first : List X) (i : ℕ) (p : Program) (d : X) → map kind xs ≡ map kind first → map (λ x. Some (kind x)) first ≡ map (λ n. option_map kind_of (program_of v n)) cs
    → i < length cs → Some p ≡ program_of v (get_or cs i 0) → kind (get_or xs i d) ≡ kind_of p
kind_by_place v kind cs xs first i p d kinds fit within runs =
    kind_at_place v kind cs xs i (get_or cs i 0) p d (same_some_kinds kind xs first kinds ∙ fit) within (at_own cs i within) runs

-- ---- what all shells have, one more

pub as_many : {X B : Type 0} (kind : X → ProgramKind) (h : X → B) (g : ℕ → Option ProgramKind) (cs : List ℕ) (xs first : List X) → map kind xs ≡ map kind first → map (λ x. Some (kind x)) first ≡ map g cs → length (map h xs) ≡ length cs
as_many kind h g cs xs first kinds fit =
    length-map xs h
    ∙ sym (length-map xs kind) ∙ ap length kinds ∙ length-map first kind
    ∙ sym (length-map first (λ x. Some (kind x))) ∙ ap length fit ∙ length-map cs g

pub one_more : {A : Type 0} (f : ℕ → A) (cs : List ℕ) (i : ℕ) (xs ys : List A) (y : A) → take i xs ≡ map f (take i cs) → ys ≡ set xs i y → y ≡ f (get_or cs i 0) → i < length cs → length xs ≡ length cs → take (i + 1) ys ≡ map f (take (i + 1) cs)
one_more f cs i xs ys y before is at within many =
    ap (take (i + 1)) is
    ∙ take_more_set xs i y (omega (arith, within, many))
    ∙ ap (λ l. l ++ y ∷ []) before
    ∙ ap (λ z. map f (take i cs) ++ z ∷ []) at
    ∙ sym (ap (map f) (take_more cs i 0 within) ∙ map-append f (take i cs) (get_or cs i 0 ∷ []))

pub all_done : {A : Type 0} (f : ℕ → A) (cs : List ℕ) (i : ℕ) (xs : List A) → take i xs ≡ map f (take i cs) → length cs ≤ i → length xs ≡ length cs → xs ≡ map f cs
all_done f cs i xs before past many =
    sym (take_all i xs (omega (arith, past, many))) ∙ before ∙ ap (map f) (take_all i cs past)

-- ---- the components of instances

below_more : (n : ℕ) → below (n + 1) ≡ below n ++ n ∷ []
below_more n =
    let one : n + 1 ≡ suc n = omega arith in
    let own : 0 + n ≡ n = omega arith in
    ap (range_with_len 0) one ∙ range_more 0 n ∙ ap (λ (k : ℕ). range_with_len 0 n ++ k ∷ []) own

pub components_more : (v : View) (n times : ℕ) (list new : List ℕ) → list ≡ flat_map (λ c. replicate (replicas_of v c) c) (below n) → new ≡ list ++ replicate times n → times ≡ replicas_of v n
    → new ≡ flat_map (λ c. replicate (replicas_of v c) c) (below (n + 1))
components_more v n times list new before is many =
    let f : ℕ → List ℕ = λ c. replicate (replicas_of v c) c in
    is ∙ ap (λ l. l ++ replicate times n) before ∙ ap (λ k. flat_map f (below n) ++ replicate k n) many
    ∙ ap (λ l. flat_map f (below n) ++ l) (sym (append-nil (f n)))
    ∙ sym (ap (flat_map f) (below_more n) ∙ flat_map-append f (below n) (n ∷ []))

Has-replicate : (c n k : ℕ) → Has c (replicate k n) → n ≡ c
Has-replicate c n zero h = absurd h
Has-replicate c n (suc k) (inl same) = same
Has-replicate c n (suc k) (inr h) = Has-replicate c n k h

pub instances_there : (v : View) (c : ℕ) → Has c (instance_components v) → c < length v.components
instances_there v c h =
    let m = Has-from_flat_map (λ n. replicate (replicas_of v n) n) c (component_numbers v) h in
    subst (λ k. k < length v.components) (Has-replicate c m.0 (replicas_of v m.0) m.2) (omega (arith, (from_range 0 (length v.components) m.0 m.1).1))

none_bodiless : (xs : List Component) (at n : ℕ) → position_from (λ (component : Component). is_none component.program) at xs ≡ None → n < length xs → is_none (get_or xs n no_component).program ≡ false
none_bodiless [] at n none within = absurd (omega (arith, within))
none_bodiless (x ∷ xs) at n none within = by_first (is_none x.program) refl none n within (λ k h w. none_bodiless xs (at + 1) k h w)
  where
    by_first : (b : Bool) → is_none x.program ≡ b → cond b (Some at) (position_from (λ (component : Component). is_none component.program) (at + 1) xs) ≡ None → (k : ℕ) → k < suc (length xs)
        → ((m : ℕ) → position_from (λ (component : Component). is_none component.program) (at + 1) xs ≡ None → m < length xs → is_none (get_or xs m no_component).program ≡ false)
        → is_none (get_or (x ∷ xs) k no_component).program ≡ false
    by_first true e h k w rest = cc
    by_first false e h zero w rest = e
    by_first false e h (suc k) w rest = rest k h (omega (arith, w))

some_body : (o : Option Program) → is_none o ≡ false → IsSome o
some_body None e = let no : true ≡ false = e in cc
some_body (Some p) e = search rules

pub all_have_bodies : (v : View) → first_without_body v ≡ None → (c : ℕ) → Has c (instance_components v) → IsSome (program_of v c)
all_have_bodies v none c h = some_body (program_of v c) (none_bodiless v.components 0 c none (instances_there v c h))
