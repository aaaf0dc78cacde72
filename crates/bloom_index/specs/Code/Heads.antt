-- What the rules of a head give to it in a step.
use Rattle.std.specs.Prelude.{ℕ, ◌≡◌, ◌==◌, ◌&&◌, not, Bool, IsTrue, Result, Ok, Err, List, ◌∷◌, ◌++◌, map, filter}
use Rattle.std.specs.List.{flat_map}
use Rattle.blz_value.specs.Members.{Has, IsWithin}
use Rattle.blz_value.specs.Record.{Row}
use Rattle.blz_value.specs.Sets.{set_of}
use Rattle.blz_set.specs.declared.fault.SetFault.{SetFault}
use Rattle.blz_set.specs.declared.fault.SetFault.TheVariants.{TooManyRows, NoMemory}
use Rattle.bloom_forms.specs.declared.numbered.NumberedExpr.{NumberedExpr}
use Rattle.bloom_forms.specs.declared.numbered.NumberedRule.{NumberedRule}
use Rattle.bloom_forms.specs.Step.{Sets}
use Rattle.bloom_eval.specs.NumberedRows.{numbered_rows, numbered_sets}
use Rattle.bloom_eval.specs.StepAnswers.{AllFit, SomeIsOver}
use Rattle.bloom_growth.specs.Growth.{Extends}
use Rattle.bloom_parts.specs.declared.change.Change.{Change}
use Rattle.bloom_parts.specs.Bodies.{BodyRows}
use Rattle.bloom_index.specs.declared.plan.Plan.{Plan}
use Rattle.bloom_index.specs.Code.Evaluation.{Stands, IsReady}
use Rattle.bloom_index.specs.Code.Lasting.{lasts}

-- ---- one rule

-- a growing head, of which the fresh rows are new since the start, gets the rows of a rule's body; TooManyRows comes exactly where it gets too many or a part has
abbrev pub GrowsBy : (body : NumberedExpr) (m after : Plan) (held : List Change) → IsReady body m held → (start rows new made : List Row) → Result (Unit {0}) SetFault → Type 0
GrowsBy body m after held ready start rows new made (Ok x) =
    (new ≡ set_of (rows ++ numbered_rows ready.new body)) × Stands ready.growing ready.lasting ready.new body after × AllFit (new ∷ numbered_sets ready.new body) × Extends start new made
GrowsBy body m after held ready start rows new made (Err TooManyRows) = SomeIsOver (set_of (rows ++ numbered_rows ready.new body) ∷ numbered_sets ready.new body)
GrowsBy body m after held ready start rows new made (Err NoMemory) = Unit {0}

-- the rows of the body that a head has already, where the body is kept
abbrev pub HasOldRows : (body : NumberedExpr) (m : Plan) (held : List Change) → IsReady body m held → (rows : List Row) → Type 0
HasOldRows body m held ready rows = IsTrue (lasts ready.lasting body) → IsWithin (numbered_rows ready.old body) rows

-- rows of the new ones, and each of these that isn't an old one
pub record AreNew (old new some : List Row) : Type 0 where
  pub only : IsWithin some new
  pub all : (row : Row) → Has row new → ¬ Has row old → Has row some

-- ---- the rules of a head that are kept, and the others

-- those of some rules that are of a head and whose bodies are kept
abbrev pub kept_rules : List Bool → List NumberedRule → (head : ℕ) → List NumberedRule
kept_rules lasting rules head = filter (λ rule. rule.head == head && lasts lasting rule.body) rules

-- and those whose bodies aren't
abbrev pub passing_rules : List Bool → List NumberedRule → (head : ℕ) → List NumberedRule
passing_rules lasting rules head = filter (λ rule. rule.head == head && not (lasts lasting rule.body)) rules

-- what some rules give, a row as often as they do
abbrev pub rows_given : Sets → List NumberedRule → List Row
rows_given sets rules = flat_map (λ rule. numbered_rows sets rule.body) rules

-- the rows of a rule's body before and after
abbrev pub body_of : (old new : Sets) → NumberedRule → BodyRows
body_of old new rule = record { old = numbered_rows old rule.body; new = numbered_rows new rule.body }

abbrev pub bodies_of : (old new : Sets) → List NumberedRule → List BodyRows
bodies_of old new rules = map (body_of old new) rules
