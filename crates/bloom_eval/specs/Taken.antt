-- What taking the heads of a module asks of the sets that its collections begin with, and what it answers.
use Rattle.std.specs.Prelude.{ℕ, ◌≡◌, ◌≢◌, Result, Ok, Err, Some, List, [], map}
use Rattle.std.specs.List.{fold}
use Rattle.blz_set.specs.declared.fault.SetFault.{SetFault}
use Rattle.blz_set.specs.declared.fault.SetFault.TheVariants.{TooManyRows, NoMemory}
use Rattle.bloom_forms.specs.declared.module.Kind.TheVariants.{Table}
use Rattle.bloom_forms.specs.declared.module.Collection.{Collection}
use Rattle.bloom_forms.specs.Form.{Accepted}
use Rattle.bloom_forms.specs.Heads.{IsDerived}
use Rattle.bloom_forms.specs.Kinds.{kind_at}
use Rattle.bloom_forms.specs.Step.{Sets, set_at, with_head}
use Rattle.bloom_eval.specs.StepAnswers.{AllFit, SomeIsOver, counted_at}
use Rattle.bloom_forms.specs.Widths.{AreSetsOf}

-- one set for each collection, with rows of its width
abbrev pub AreSetsOfAll : List Collection → Sets → Type 0
AreSetsOfAll cs sets = AreSetsOf (map (λ c. c.columns) cs) sets

-- the sets of the collections at the beginning of a step: scratches and outputs have none
pub record AreBegun (cs : List Collection) (sets : Sets) : Type 0 where
  pub wide : AreSetsOfAll cs sets
  pub fresh : (number : ℕ) → IsDerived cs number → kind_at cs number ≢ Some Table → set_at sets number ≡ []

-- the sets after the heads are taken in their order
abbrev pub all_taken : Accepted → Sets → Sets
all_taken a sets = fold (with_head a.form) sets a.heads

-- the heads were taken; TooManyRows comes exactly where a set that counts has too many rows
abbrev pub TakesHeads : {X : Type 0} → Accepted → (old new : Sets) → Result X SetFault → Type 0
TakesHeads a old new (Ok x) = (new ≡ all_taken a old) × AllFit (counted_at a (all_taken a old))
TakesHeads a old new (Err TooManyRows) = SomeIsOver (counted_at a (all_taken a old))
TakesHeads a old new (Err NoMemory) = Unit {0}
