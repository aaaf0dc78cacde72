-- Sides one plan after the other, and one part of a plan after the other.
use Rattle.std.proofs.Common.{◌≡◌, ◌∙◌, ◌<◌, ◌+◌, ℕ, zero, suc, Bool, if◌then◌else◌, IsSomeAnd, List, [], ◌∷◌, ◌++◌, length, get_or, take, drop, slice_get, Bor, ap, sym, subst, arith}
use Rattle.std.specs.List.{flat_map}
use Rattle.std.specs.declared.ops.ControlFlow.{ControlFlow}
use Rattle.std.specs.declared.ops.ControlFlow.TheVariants.{Continue, Break}
use Rattle.std.proofs.lemmas.List.{append-nil, take_more, take-append-drop, drop_more, length-append}
use Rattle.std.proofs.lemmas.List.Concat.{flat_map-append}
use Rattle.blz_value.specs.Members.{Has}
use Rattle.blz_value.proofs.Membership.{Has-get_or}
use Rattle.bloom_forms.specs.declared.numbered.NumberedExpr.{NumberedExpr}
use Rattle.bloom_forms.specs.Step.{Sets}
use Rattle.bloom_parts.specs.declared.part_rows.PartRows.{PartRows}
use Rattle.bloom_parts.specs.declared.part_rows.PartRows.TheVariants.{Growing, Keyed}
use Rattle.bloom_parts.specs.KeptParts.{PartStands}
use Rattle.bloom_parts.specs.PartForms.{kept_of}
use Rattle.bloom_index.specs.declared.plan.Plan.{Plan}
use Rattle.bloom_growth.specs.declared.side.Side.{Side}
use Rattle.bloom_eval.specs.NumberedRows.{numbered_rows}
use Rattle.bloom_index.specs.Code.Evaluation.{PlanStands}
use Rattle.bloom_index.specs.Code.Growth.{grows}
use Rattle.bloom_growth.specs.Sides.{IsSideOf}
use Rattle.bloom_index.specs.Code.Lasting.{lasts, GrowLast}
use Rattle.bloom_index.specs.Code.Plans.{expr_of}
use Rattle.bloom_index.specs.Code.SideParts.{NumberedSide, grown_side, numbered_sides, plans_sides, IsKept, AreKept, HasRowsOf, IsSideAt, FindsOwn, Finds}
use Rattle.bloom_index.proofs.LastsLemmas.{grow_lasts}

-- a place in a later list, and in an earlier one
pub at_after : {X : Type 0} (Q : X → Type 0) (before xs : List X) (k n : ℕ) → k + length before ≡ n → IsSomeAnd (slice_get xs k) Q → IsSomeAnd (slice_get (before ++ xs) n) Q
at_after Q [] xs k n e h = let same : k ≡ n = omega (arith, e) in subst (λ (m : ℕ). IsSomeAnd (slice_get xs m) Q) same h
at_after Q (b ∷ before) xs k zero e h = absurd (omega (arith, e))
at_after Q (b ∷ before) xs k (suc n) e h = at_after Q before xs k n (omega (arith, e)) h

pub at_before : {X : Type 0} (Q : X → Type 0) (xs more : List X) (k : ℕ) → IsSomeAnd (slice_get xs k) Q → IsSomeAnd (slice_get (xs ++ more) k) Q
at_before Q [] more k h = absurd h
at_before Q (x ∷ xs) more zero h = h
at_before Q (x ∷ xs) more (suc k) h = at_before Q xs more k h

module _ (growing : List Bool) (plans : List Plan) where
  abbrev own : Plan → List NumberedSide
  own m = numbered_sides growing (expr_of m)

  -- the sides with those of one plan more
  pub sides_more : (i : ℕ) (m : Plan) → i < length plans → m ≡ get_or plans i m → plans_sides growing (take (i + 1) plans) ≡ plans_sides growing (take i plans) ++ own m
  sides_more i m lt is =
      ap (λ (l : List Plan). flat_map own l) (take_more plans i m lt ∙ ap (λ (n : Plan). take i plans ++ n ∷ []) (sym is))
      ∙ flat_map-append own (take i plans) (m ∷ [])
      ∙ ap (λ (l : List NumberedSide). flat_map own (take i plans) ++ l) (append-nil (own m))

  -- those before a plan, its own and those after it
  sides_split : (i : ℕ) (m : Plan) → i < length plans → m ≡ get_or plans i m → plans_sides growing plans ≡ plans_sides growing (take i plans) ++ (own m ++ plans_sides growing (drop (i + 1) plans))
  sides_split i m lt is =
      ap (λ (l : List Plan). flat_map own l) (sym (take-append-drop i plans) ∙ ap (λ (l : List Plan). take i plans ++ l) (drop_more plans i m lt ∙ ap (λ (n : Plan). n ∷ drop (i + 1) plans) (sym is)))
      ∙ flat_map-append own (take i plans) (m ∷ drop (i + 1) plans)

  -- the side of a plan with a number is that of all plans with the number that counts those before it
  pub side_of_all : (sets : Sets) (i : ℕ) (m : Plan) (left number : ℕ) (side : Side) → i < length plans → m ≡ get_or plans i m → left + length (plans_sides growing (take i plans)) ≡ number → IsSideAt sets (own m) left side → IsSideAt sets (plans_sides growing plans) number side
  side_of_all sets i m left number side lt is passed at =
      subst (λ (sides : List NumberedSide). IsSideAt sets sides number side) (sym (sides_split i m lt is))
      (at_after (HasRowsOf sets side) (plans_sides growing (take i plans)) (own m ++ plans_sides growing (drop (i + 1) plans)) left number passed (at_before (HasRowsOf sets side) (own m) (plans_sides growing (drop (i + 1) plans)) left at))

-- ---- one part after the other

-- a side that is found among the first
pub finds_first : (sets : Sets) (xs ys : List NumberedSide) (number : ℕ) (side : Bor Side) → Finds sets xs number (Break side) → Finds sets (xs ++ ys) number (Break side)
finds_first sets xs ys number side found = at_before (HasRowsOf sets side.now) xs ys number found

-- what is found of the later ones, where the first were passed
pub finds_later : (sets : Sets) (xs ys : List NumberedSide) (number left : ℕ) (r : ControlFlow (Bor Side) ℕ) → Finds sets xs number (Continue left) → Finds sets ys left r → Finds sets (xs ++ ys) number r
finds_later sets xs ys number left (Break side) passed found = at_after (HasRowsOf sets side.now) xs ys left number (omega (arith, passed)) found
finds_later sets xs ys number left (Continue more) passed found = omega (arith, passed, found, length-append xs ys)

-- what is found of a part itself, of which what is kept stands
pub part_finds : (growing lasting : List Bool) → GrowLast growing lasting → (e : NumberedExpr) (sets : Sets) (columns : List ℕ) (rows : PartRows) (number : ℕ) (r : ControlFlow (Bor Side) ℕ) → FindsOwn rows number r
    → PartStands columns (grows growing e) (lasts lasting e) (numbered_rows sets e) (kept_of rows) → Finds sets (grown_side growing e columns) number r
part_finds growing lasting last e sets columns (Growing side) number (Break found) own stands =
    let one : NumberedSide = record { part = e; columns = columns } in
    let has : IsSideOf columns (numbered_rows sets e) found.now = subst (λ (s : Side). IsSideOf columns (numbered_rows sets e) s) (sym own.1) (stands.by_key (grow_lasts growing lasting last e (sym stands.form))) in
    subst (λ (b : Bool). IsSideAt sets (if b then one ∷ [] else []) number found.now) stands.form (subst (λ (n : ℕ). IsSideAt sets (one ∷ []) n found.now) (sym own.0) has)
part_finds growing lasting last e sets columns (Growing side) number (Continue left) own stands =
    let one : NumberedSide = record { part = e; columns = columns } in
    subst (λ (b : Bool). length (if b then one ∷ [] else []) + left ≡ number) stands.form own
part_finds growing lasting last e sets columns (Keyed rows) number (Break found) own stands = absurd own
part_finds growing lasting last e sets columns (Keyed rows) number (Continue left) own stands =
    let one : NumberedSide = record { part = e; columns = columns } in
    subst (λ (b : Bool). length (if b then one ∷ [] else []) + left ≡ number) stands.form (omega (arith, own))

-- what is kept by a plan has what is kept by another
abbrev pub in_kept : (growing : List Bool) (m n : Plan) → (kept : IsKept growing m) → PlanStands growing kept.lasting kept.sets n → IsKept growing n
in_kept growing m n kept stands = record { lasting = kept.lasting; sets = kept.sets; last = kept.last; stands = stands }

-- what is found of an equal plan
pub transport : (m0 m : Plan) (number : ℕ) (r : ControlFlow (Bor Side) ℕ) → m0 ≡ m → ((growing : List Bool) (kept : IsKept growing m) → Finds kept.sets (numbered_sides growing (expr_of m)) number r)
    → (growing : List Bool) (kept : IsKept growing m0) → Finds kept.sets (numbered_sides growing (expr_of m0)) number r
transport m0 m number r is f growing kept =
    let there : IsKept growing m = in_kept growing m0 m kept (subst (PlanStands growing kept.lasting kept.sets) is kept.stands) in
    subst (λ (x : Plan). Finds kept.sets (numbered_sides growing (expr_of x)) number r) (sym is) (f growing there)

-- what is found of a plan in another that has the same sides, of which it is kept
pub found_in : (m n : Plan) (number : ℕ) (r : ControlFlow (Bor Side) ℕ) → n ≡ m → ((growing : List Bool) (kept : IsKept growing n) → Finds kept.sets (numbered_sides growing (expr_of n)) number r)
    → (growing : List Bool) (whole : Plan) (kept : IsKept growing whole) → PlanStands growing kept.lasting kept.sets m → Finds kept.sets (numbered_sides growing (expr_of m)) number r
found_in m n number r is f growing whole kept stands = transport m n number r (sym is) f growing (in_kept growing whole m kept stands)

-- ---- what is kept by the plans

module _ (growing : List Bool) (plans : List Plan) (all : AreKept growing plans) where
  -- what is kept by the plan at a place
  abbrev pub plan_at : (i : ℕ) (m : Plan) → i < length plans → m ≡ get_or plans i m → IsKept growing m
  plan_at i m lt is = record { lasting = all.lasting; sets = all.sets; last = all.last; stands = all.stand m (subst (λ (n : Plan). Has n plans) (sym is) (Has-get_or plans i m lt)) }

-- one plan more is passed
pub passed_more : (growing : List Bool) (plans : List Plan) (i : ℕ) (m : Plan) (left later number : ℕ) → i < length plans → m ≡ get_or plans i m → left + length (plans_sides growing (take i plans)) ≡ number
    → length (numbered_sides growing (expr_of m)) + later ≡ left → later + length (plans_sides growing (take (i + 1) plans)) ≡ number
passed_more growing plans i m left later number lt is before here =
    let more : length (plans_sides growing (take (i + 1) plans)) ≡ length (plans_sides growing (take i plans) ++ numbered_sides growing (expr_of m)) = ap (λ (l : List NumberedSide). length l) (sides_more growing plans i m lt is) in
    omega (arith, before, here, more, length-append (plans_sides growing (take i plans)) (numbered_sides growing (expr_of m)))
