-- The sides of rules by numbers, and the sides that are kept of them.
use Rattle.std.specs.Prelude.{ℕ, ◌≡◌, ◌+◌, ◌<◌, Bool, if◌then◌else◌, List, [], ◌∷◌, ◌++◌, length, slice_get, IsSomeAnd}
use denote.Ref.{Bor}
use Rattle.std.specs.List.{flat_map}
use Rattle.std.specs.declared.ops.ControlFlow.{ControlFlow}
use Rattle.std.specs.declared.ops.ControlFlow.TheVariants.{Continue, Break}
use Rattle.blz_set.specs.Pairs.{lefts_of, rights_of}
use Rattle.bloom_forms.specs.declared.numbered.NumberedExpr.{NumberedExpr, Base, Select', Project', Join', NotIn', Group', AtLeast'}
use Rattle.bloom_forms.specs.declared.numbered.NumberedRule.{NumberedRule}
use Rattle.bloom_forms.specs.Step.{Sets}
use Rattle.bloom_eval.specs.NumberedRows.{numbered_rows}
use Rattle.bloom_parts.specs.declared.part_rows.PartRows.{PartRows}
use Rattle.bloom_parts.specs.declared.part_rows.PartRows.TheVariants.{Growing, Keyed}
use Rattle.bloom_index.specs.declared.plan.Plan.{Plan}
use Rattle.bloom_growth.specs.declared.side.Side.{Side}
use Rattle.bloom_index.specs.Code.Evaluation.{PlanStands}
use Rattle.bloom_index.specs.Code.Growth.{grows}
use Rattle.bloom_index.specs.Code.Kept.{PlansStand}
use Rattle.bloom_index.specs.Code.Lasting.{GrowLast}
use Rattle.bloom_index.specs.Code.Plans.{expr_of}
use Rattle.bloom_growth.specs.Sides.{IsSideOf}

-- ---- sides by numbers

-- a part by numbers, and its columns in the pairs of its join or notin
pub record NumberedSide : Type 0 where
  pub part : NumberedExpr
  pub columns : List ℕ

-- the one part where it grows, else none
abbrev pub grown_side : List Bool → NumberedExpr → List ℕ → List NumberedSide
grown_side growing e columns = if grows growing e then record { part = e; columns = columns } ∷ [] else []

-- the sides in an expression, in the order of the text
abbrev pub numbered_sides : List Bool → NumberedExpr → List NumberedSide
numbered_sides growing (Base number) = []
numbered_sides growing (Select' p e test) = numbered_sides growing e
numbered_sides growing (Project' p e columns) = numbered_sides growing e
numbered_sides growing (Join' p a q b pairs) =
    grown_side growing a (lefts_of pairs) ++ (numbered_sides growing a ++ (grown_side growing b (rights_of pairs) ++ numbered_sides growing b))
numbered_sides growing (NotIn' p a q b pairs) = numbered_sides growing a ++ (grown_side growing b (rights_of pairs) ++ numbered_sides growing b)
numbered_sides growing (Group' p e keys agg) = numbered_sides growing e
numbered_sides growing (AtLeast' p e keys bound) = numbered_sides growing e

-- the sides of all rules
abbrev pub rules_sides : List Bool → List NumberedRule → List NumberedSide
rules_sides growing rules = flat_map (λ rule. numbered_sides growing rule.body) rules

-- the sides of plans
abbrev pub plans_sides : List Bool → List Plan → List NumberedSide
plans_sides growing plans = flat_map (λ (m : Plan). numbered_sides growing (expr_of m)) plans

-- ---- sides that are kept

-- what is kept by a plan is that over some sets
pub record IsKept (growing : List Bool) (m : Plan) : Type 0 where
  pub lasting : List Bool
  pub sets : Sets
  pub last : GrowLast growing lasting
  pub stands : PlanStands growing lasting sets m

-- what is kept by each plan is
pub record AreKept (growing : List Bool) (plans : List Plan) : Type 0 where
  pub lasting : List Bool
  pub sets : Sets
  pub last : GrowLast growing lasting
  pub stand : PlansStand growing lasting sets plans

-- plans by which something is kept have a side with this number
pub record HasSide (plans : List Plan) (number : ℕ) : Type 0 where
  pub growing : List Bool
  pub kept : AreKept growing plans
  pub within : number < length (plans_sides growing plans)

-- a side has the rows of a part over the sets, by the part's columns
abbrev pub HasRowsOf : Sets → Side → NumberedSide → Type 0
HasRowsOf sets side numbered = IsSideOf numbered.columns (numbered_rows sets numbered.part) side

-- it is the side with the number
abbrev pub IsSideAt : Sets → List NumberedSide → (number : ℕ) → Side → Type 0
IsSideAt sets sides number side = IsSomeAnd (slice_get sides number) (HasRowsOf sets side)

-- what is kept of a part in the form for parts that grow was found or passed, in another form there is nothing to find
abbrev pub FindsOwn : PartRows → (number : ℕ) → ControlFlow (Bor Side) ℕ → Type 0
FindsOwn (Growing side) number (Break found) = (number ≡ 0) × (found.now ≡ side)
FindsOwn (Growing side) number (Continue left) = 1 + left ≡ number
FindsOwn (Keyed rows) number (Break found) = ⊥
FindsOwn (Keyed rows) number (Continue left) = left ≡ number

-- the side with the number was found, or all were passed and so many are to be passed after them
abbrev pub Finds : Sets → List NumberedSide → (number : ℕ) → ControlFlow (Bor Side) ℕ → Type 0
Finds sets sides number (Break side) = IsSideAt sets sides number side.now
Finds sets sides number (Continue left) = length sides + left ≡ number
