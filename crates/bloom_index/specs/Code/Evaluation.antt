-- What the evaluation of an expression in a step asks and answers, by what is kept of it.
use Rattle.std.specs.Prelude.{ℕ, ◌≡◌, Bool, IsTrue, Result, Ok, Err, List, slice_get}
use Rattle.blz_value.specs.declared.aggregate.Agg.TheVariants.{Count}
use Rattle.blz_set.specs.declared.fault.SetFault.{SetFault}
use Rattle.blz_set.specs.declared.fault.SetFault.TheVariants.{TooManyRows, NoMemory}
use Rattle.bloom_forms.specs.declared.numbered.NumberedExpr.{NumberedExpr}
use Rattle.bloom_forms.specs.declared.numbered.NumberedExpr as expr
use Rattle.bloom_forms.specs.Step.{Sets, set_at}
use Rattle.bloom_eval.specs.NumberedRows.{numbered_rows, numbered_sets, TestsFit}
use Rattle.bloom_eval.specs.StepAnswers.{AllFit, SomeIsOver}
use Rattle.bloom_growth.specs.Bags.{IsBag}
use Rattle.bloom_growth.specs.TurningGroups.{TalliesStand}
use Rattle.bloom_growth.specs.Whole.{counted_rows}
use Rattle.bloom_parts.specs.declared.change.Change.{Change}
use Rattle.bloom_parts.specs.KeptParts.{JoinStands, NotInStands, IsWide}
use Rattle.bloom_parts.specs.Turns.{HasTurnedAt, TurnsTo}
use Rattle.bloom_index.specs.declared.plan.Plan.{Plan}
use Rattle.bloom_index.specs.declared.plan.Plan as plan
use Rattle.bloom_index.specs.Code.Growth.{grows_at, grows, IsGrown}
use Rattle.bloom_index.specs.Code.Lasting.{lasts_at, lasts, KeepsEnough}
use Rattle.bloom_index.specs.Code.Plans.{expr_of}

-- what is kept by a plan is that over these sets of the collections: each kept part is the rows of the part
abbrev pub PlanStands : (growing lasting : List Bool) → Sets → Plan → Type 0
PlanStands growing lasting sets (plan.Base number) = Unit {0}
PlanStands growing lasting sets (plan.Select' p m test) = PlanStands growing lasting sets m
PlanStands growing lasting sets (plan.Project' p m columns bag) = PlanStands growing lasting sets m × (IsTrue (lasts lasting (expr_of m)) → IsBag (counted_rows columns (numbered_rows sets (expr_of m))) bag)
PlanStands growing lasting sets (plan.Join' p m q n pairs kept) =
    PlanStands growing lasting sets m × PlanStands growing lasting sets n × JoinStands pairs (grows growing (expr_of m)) (lasts lasting (expr_of m)) (grows growing (expr_of n)) (lasts lasting (expr_of n)) (numbered_rows sets (expr_of m)) (numbered_rows sets (expr_of n)) kept
PlanStands growing lasting sets (plan.NotIn' p m q n pairs kept) =
    PlanStands growing lasting sets m × PlanStands growing lasting sets n × NotInStands pairs (lasts lasting (expr_of m)) (grows growing (expr_of n)) (lasts lasting (expr_of n)) (numbered_rows sets (expr_of m)) (numbered_rows sets (expr_of n)) kept
PlanStands growing lasting sets (plan.Group' p m groups) = PlanStands growing lasting sets m × (IsTrue (lasts lasting (expr_of m)) → TalliesStand groups.keys.items groups.agg (numbered_rows sets (expr_of m)) groups)
PlanStands growing lasting sets (plan.AtLeast' p m bound groups) = PlanStands growing lasting sets m × (IsTrue (lasts lasting (expr_of m)) → TalliesStand groups.keys.items Count (numbered_rows sets (expr_of m)) groups)

-- it is the plan of the expression, and what is kept by it is that over these sets
pub record Stands (growing lasting : List Bool) (sets : Sets) (e : NumberedExpr) (m : Plan) : Type 0 where
  pub same : expr_of m ≡ e
  pub kept : PlanStands growing lasting sets m

-- all collections turned, those that are kept and the others
abbrev pub HaveTurned : List Bool → (old new : Sets) → List Change → Type 0
HaveTurned lasting old new held = (number : ℕ) → HasTurnedAt (lasts_at lasting number) (set_at old number) (set_at new number) (slice_get held number)

-- the collections that grow lost nothing
abbrev pub HaveGrown : List Bool → (old new : Sets) → Type 0
HaveGrown growing old new = (number : ℕ) → IsTrue (grows_at growing number) → IsGrown (set_at old number) (set_at new number)

-- the rows of each part of a join and of a project have one width, before and after
abbrev pub JoinsFit : (old new : Sets) → NumberedExpr → Type 0
JoinsFit old new (expr.Base number) = Unit {0}
JoinsFit old new (expr.Select' p e test) = JoinsFit old new e
JoinsFit old new (expr.Project' p e columns) = JoinsFit old new e × IsWide (numbered_rows old e) (numbered_rows new e)
JoinsFit old new (expr.Join' p a q b pairs) = JoinsFit old new a × JoinsFit old new b × IsWide (numbered_rows old a) (numbered_rows new a) × IsWide (numbered_rows old b) (numbered_rows new b)
JoinsFit old new (expr.NotIn' p a q b pairs) = JoinsFit old new a × JoinsFit old new b
JoinsFit old new (expr.Group' p e keys agg) = JoinsFit old new e
JoinsFit old new (expr.AtLeast' p e keys bound) = JoinsFit old new e

-- an expression can be evaluated by its plan: the collections turned from old sets, over which what is kept by it stands, to new ones; its tests, joins and projects fit over both, and enough of its parts are kept
pub record IsReady (e : NumberedExpr) (m : Plan) (held : List Change) : Type 0 where
  pub growing : List Bool
  pub lasting : List Bool
  pub old : Sets
  pub new : Sets
  pub turned : HaveTurned lasting old new held
  pub grown : HaveGrown growing old new
  pub stands : Stands growing lasting old e m
  pub enough : KeepsEnough lasting e
  pub fit_old : TestsFit old e
  pub fit : TestsFit new e
  pub wide : JoinsFit old new e

-- it was evaluated: its rows turned from those over the old sets to those over the new ones, over which what is kept by its plan stands; TooManyRows comes exactly where a part has too many rows
abbrev pub Evaluates : (e : NumberedExpr) (m after : Plan) (held : List Change) → IsReady e m held → Result Change SetFault → Type 0
Evaluates e m after held ready (Ok change) =
    TurnsTo (lasts ready.lasting e) (numbered_rows ready.old e) (numbered_rows ready.new e) (Ok change) × Stands ready.growing ready.lasting ready.new e after × AllFit (numbered_sets ready.new e)
Evaluates e m after held ready (Err TooManyRows) = SomeIsOver (numbered_sets ready.new e)
Evaluates e m after held ready (Err NoMemory) = Unit {0}
