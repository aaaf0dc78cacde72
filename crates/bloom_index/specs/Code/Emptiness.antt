-- What is kept before the first step.
use Rattle.std.specs.Prelude.{ℕ, ◌≡◌, Bool, List, [], length}
use Rattle.blz_value.specs.declared.aggregate.Agg.TheVariants.{Count}
use Rattle.blz_value.specs.Members.{Has}
use Rattle.bloom_forms.specs.declared.numbered.NumberedExpr.{NumberedExpr}
use Rattle.bloom_forms.specs.declared.numbered.NumberedExpr as expr
use Rattle.bloom_growth.specs.declared.bag.Bag.{Bag}
use Rattle.bloom_growth.specs.Bags.{IsBag}
use Rattle.bloom_growth.specs.TurningGroups.{AreFreshTallies}
use Rattle.bloom_parts.specs.FreshParts.{IsFreshJoin, IsFreshNotIn}
use Rattle.bloom_index.specs.declared.plan.Plan.{Plan}
use Rattle.bloom_index.specs.declared.plan.Plan as plan
use Rattle.bloom_index.specs.Code.Copies.{IsCopy}
use Rattle.bloom_index.specs.Code.Growth.{grows}

-- the plan of an expression before the first step
abbrev pub IsFresh : List Bool → NumberedExpr → Plan → Type 0
IsFresh growing (expr.Base number) (plan.Base copy) = copy ≡ number
IsFresh growing (expr.Select' p e test) (plan.Select' q m copy) = IsFresh growing e m × IsCopy test copy
IsFresh growing (expr.Project' p e columns) (plan.Project' q m copy bag) = IsFresh growing e m × (copy ≡ columns) × IsBag [] bag
IsFresh growing (expr.Join' p a q b pairs) (plan.Join' r m s n copy kept) = IsFresh growing a m × IsFresh growing b n × (copy ≡ pairs) × IsFreshJoin pairs (grows growing a) (grows growing b) kept
IsFresh growing (expr.NotIn' p a q b pairs) (plan.NotIn' r m s n copy kept) = IsFresh growing a m × IsFresh growing b n × (copy ≡ pairs) × IsFreshNotIn pairs (grows growing b) kept
IsFresh growing (expr.Group' p e keys agg) (plan.Group' q m groups) = IsFresh growing e m × AreFreshTallies keys agg groups
IsFresh growing (expr.AtLeast' p e keys bound) (plan.AtLeast' q m copy groups) = IsFresh growing e m × (copy ≡ bound) × AreFreshTallies keys Count groups
IsFresh growing e m = ⊥

-- so many bags that have nothing
pub record AreNoBags (count : ℕ) (bags : List Bag) : Type 0 where
  pub many : length bags ≡ count
  pub each : (bag : Bag) → Has bag bags → IsBag [] bag
