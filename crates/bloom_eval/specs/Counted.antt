-- What adding the rows of rules to a set answers.
use Rattle.std.specs.Prelude.{ℕ, ◌≡◌, Result, Ok, Err, OnOk, List, [], ◌∷◌, ◌++◌, slice_set}
use Rattle.blz_value.specs.Record.{Row}
use Rattle.blz_value.specs.Sets.{set_of}
use Rattle.blz_set.specs.declared.fault.SetFault.{SetFault}
use Rattle.blz_set.specs.declared.fault.SetFault.TheVariants.{TooManyRows, NoMemory}
use Rattle.bloom_forms.specs.declared.module.Collection.{Collection}
use Rattle.bloom_forms.specs.Lookup.{declared}
use Rattle.bloom_forms.specs.Query.{Name}
use Rattle.bloom_forms.specs.Form.{RuleForm}
use Rattle.bloom_forms.specs.Step.{Sets, set_at, rows_named, rules_at, union_of}
use Rattle.bloom_eval.specs.StepAnswers.{AllFit, SomeIsOver, rule_sets}

-- rows were added to a set; TooManyRows comes exactly where they make it too large, or one of the sets that they come from has too many rows
abbrev pub AddsRows : {X : Type 0} → (rows : List Row) (sets : Sets) → (old new : List Row) → Result X SetFault → Type 0
AddsRows rows sets old new (Ok x) = (new ≡ set_of (old ++ rows)) × AllFit sets
AddsRows rows sets old new (Err TooManyRows) = SomeIsOver (set_of (old ++ rows) ∷ sets)
AddsRows rows sets old new (Err NoMemory) = Unit {0}

-- the rows of some rules were added to a set; TooManyRows comes exactly where they make it too large, or a part of a body has too many rows
abbrev pub Adds : {X : Type 0} → (Name → List Name) → (Name → List Row) → List RuleForm → (old new : List Row) → Result X SetFault → Type 0
Adds columns env rules old new (Ok x) = (new ≡ set_of (old ++ union_of columns env rules)) × AllFit (new ∷ rule_sets columns env rules)
Adds columns env rules old new (Err TooManyRows) = SomeIsOver (set_of (old ++ union_of columns env rules) ∷ rule_sets columns env rules)
Adds columns env rules old new (Err NoMemory) = Unit {0}

-- a head was taken: its set is what it was with the rows of its rules, which read the other sets, and no other set changed
abbrev pub TakesHead : {X : Type 0} → List Collection → List RuleForm → ℕ → (old new : Sets) → Result X SetFault → Type 0
TakesHead cs rules head old new r = Adds (declared cs) (rows_named cs (slice_set old head [])) (rules_at cs rules head) (set_at old head) (set_at new head) r × OnOk r (new ≡ slice_set old head (set_at new head))
