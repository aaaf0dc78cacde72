-- What the rules of a head give in a step, and what is kept of them.
use Rattle.std.specs.Prelude.{ℕ, ◌≡◌, ◌≢◌, ◌<◌, ◌≤◌, ◌==◌, ◌&&◌, not, Bool, true, false, cond, IsTrue, Some, Result, Ok, Err, List, [], ◌∷◌, ◌++◌, length, slice_get}
use Rattle.std.specs.List.{AllZip}
use Rattle.blz_value.specs.Members.{Has, IsWithin}
use Rattle.blz_value.specs.Record.{Row}
use Rattle.blz_value.specs.Sets.{set_of}
use Rattle.blz_set.specs.RecordSet.{row_limit}
use Rattle.blz_set.specs.declared.fault.SetFault.{SetFault}
use Rattle.blz_set.specs.declared.fault.SetFault.TheVariants.{TooManyRows, NoMemory}
use Rattle.bloom_forms.specs.declared.numbered.NumberedRule.{NumberedRule}
use Rattle.bloom_forms.specs.Form.{Accepted}
use Rattle.bloom_forms.specs.Lookup.{declared}
use Rattle.bloom_forms.specs.Numbered.{AreNumbered}
use Rattle.bloom_forms.specs.Step.{Sets, rows_named, rules_at, ruled_at}
use Rattle.bloom_eval.specs.NumberedRows.{numbered_rows}
use Rattle.bloom_eval.specs.Taken.{AreSetsOfAll}
use Rattle.bloom_eval.specs.StepAnswers.{AllFit, SomeIsOver, rule_sets}
use Rattle.bloom_growth.specs.declared.bag.Bag.{Bag}
use Rattle.bloom_growth.specs.Bags.{IsBag}
use Rattle.bloom_growth.specs.Growth.{Extends}
use Rattle.bloom_parts.specs.declared.change.Change.{Change}
use Rattle.bloom_parts.specs.Bodies.{BodiesTurn}
use Rattle.bloom_parts.specs.Turns.{rows_in, TurnsTo}
use Rattle.bloom_index.specs.declared.heads.HeadParts.{HeadParts}
use Rattle.bloom_index.specs.declared.plan.Plan.{Plan}
use Rattle.bloom_index.specs.Code.Evaluation.{HaveTurned, HaveGrown, Stands}
use Rattle.bloom_index.specs.Code.Heads.{kept_rules, passing_rules, rows_given, bodies_of, AreNew}
use Rattle.bloom_index.specs.Code.Lasting.{lasts_at, lasts, KeepsEnough}

-- the rules of a head can be evaluated: the collections turned from old sets, over which what is kept of its rules stands, to new ones, both of their widths
pub record AreReady (rules : List NumberedRule) (head : ℕ) (plans : List Plan) (held : List Change) : Type 0 where
  pub a : Accepted
  pub growing : List Bool
  pub lasting : List Bool
  pub old : Sets
  pub new : Sets
  pub numbered : AreNumbered a.form.collections a.form.rules rules
  pub few : length rules ≤ 64
  pub many : length plans ≡ length rules
  pub turned : HaveTurned lasting old new held
  pub grown : HaveGrown growing old new
  pub wide_old : AreSetsOfAll a.form.collections old
  pub wide : AreSetsOfAll a.form.collections new
  pub enough : (rule : NumberedRule) → Has rule rules → KeepsEnough lasting rule.body
  pub stands : (k : ℕ) (rule : NumberedRule) (plan : Plan) → slice_get rules k ≡ Some rule → slice_get plans k ≡ Some plan → rule.head ≡ head → Stands growing lasting old rule.body plan

-- these rules have the heads of those, one by one
abbrev pub HaveHeads : (rules others : List NumberedRule) → Type 0
HaveHeads rules others = AllZip (λ (rule other : NumberedRule). rule.head ≡ other.head) rules others

-- the rules of a head can be evaluated by their plans: those of which they are the plans, which have the heads of the rules that are read
pub record CanTurn (read : List NumberedRule) (head : ℕ) (plans : List Plan) (held : List Change) : Type 0 where
  pub rules : List NumberedRule
  pub heads : HaveHeads rules read
  pub ready : AreReady rules head plans held

-- the rows of each part of the bodies of a head's rules
abbrev pub head_sets : Accepted → Sets → (head : ℕ) → Sets
head_sets a sets head = rule_sets (declared a.form.collections) (rows_named a.form.collections sets) (rules_at a.form.collections a.form.rules head)

-- the old rows of each rule of a growing head whose body is kept stand among the rows that the head had
abbrev pub HasOldHead : (rules : List NumberedRule) (head : ℕ) (plans : List Plan) (held : List Change) → AreReady rules head plans held → (rows : List Row) → Type 0
HasOldHead rules head plans held ready rows = (rule : NumberedRule) → Has rule rules → rule.head ≡ head → IsTrue (lasts ready.lasting rule.body) → IsWithin (numbered_rows ready.old rule.body) rows

-- what is kept of so many rules: of those of the head that over the new sets, and of others what was kept, as of the later ones
pub record AreTurned (growing lasting : List Bool) (new : Sets) (rules : List NumberedRule) (head count : ℕ) (was now : List Plan) : Type 0 where
  pub many : length now ≡ length was
  pub own : (k : ℕ) (rule : NumberedRule) (plan : Plan) → k < count → slice_get rules k ≡ Some rule → slice_get now k ≡ Some plan → rule.head ≡ head → Stands growing lasting new rule.body plan
  pub other : (k : ℕ) (rule : NumberedRule) → k < count → slice_get rules k ≡ Some rule → rule.head ≢ head → slice_get now k ≡ slice_get was k
  pub later : (k : ℕ) → count ≤ k → slice_get now k ≡ slice_get was k

-- a growing head got the rows of its rules, and the answer is those that are new; TooManyRows comes exactly where it gets too many or a part of a body has
abbrev pub GrowsHead : (rules : List NumberedRule) (head : ℕ) (plans : List Plan) (held : List Change) → AreReady rules head plans held → (rows new : List Row) (after : List Plan) → Result Change SetFault → Type 0
GrowsHead rules head plans held ready rows new after (Ok change) =
    (new ≡ set_of (rows ++ ruled_at ready.a.form ready.new head))
    × AllFit (new ∷ head_sets ready.a ready.new head)
    × IsTrue change.kept
    × Extends rows new (rows_in change.rows)
    × (rows_in change.gone ≡ [])
    × AreTurned ready.growing ready.lasting ready.new rules head (length rules) plans after
GrowsHead rules head plans held ready rows new after (Err TooManyRows) = SomeIsOver (set_of (rows ++ ruled_at ready.a.form ready.new head) ∷ head_sets ready.a ready.new head)
GrowsHead rules head plans held ready rows new after (Err NoMemory) = Unit {0}

-- whether a head needs a bag: one that is kept and has one rule is what that rule gives
abbrev pub needs_bag : List Bool → List NumberedRule → (head : ℕ) → Bool
needs_bag lasting rules head = not (lasts_at lasting head && length (kept_rules lasting rules head) == 1)

-- the bag of a head that needs one has what its rules that are kept give
abbrev pub HasGiven : List Bool → Sets → List NumberedRule → (head : ℕ) → Bag → Type 0
HasGiven lasting sets rules head bag = IsTrue (needs_bag lasting rules head) → IsBag (rows_given sets (kept_rules lasting rules head)) bag

-- all rules of a head are kept
abbrev pub AllLast : List Bool → List NumberedRule → (head : ℕ) → Type 0
AllLast lasting rules head = (rule : NumberedRule) → Has rule rules → rule.head ≡ head → IsTrue (lasts lasting rule.body)

-- the change of a rule that is kept stands behind the others, and the rows of another are added; TooManyRows comes only where these are too many
abbrev pub AddsRule : {X : Type 0} → Change → (old new : HeadParts) → Result X SetFault → Type 0
AddsRule change old new (Ok x) =
    (new.changes.items ≡ cond change.kept (old.changes.items ++ change ∷ []) old.changes.items) × (rows_in new.rows ≡ cond change.kept (rows_in old.rows) (set_of (rows_in old.rows ++ rows_in change.rows)))
AddsRule change old new (Err TooManyRows) = (change.kept ≡ false) × (row_limit < length (set_of (rows_in old.rows ++ rows_in change.rows)))
AddsRule change old new (Err NoMemory) = Unit {0}

-- its rules were evaluated: those that are kept changed, and the others give the set; TooManyRows comes only where the head has too many rows or a part of a body has
abbrev pub MakesParts : (rules : List NumberedRule) (head : ℕ) (plans : List Plan) (held : List Change) → AreReady rules head plans held → (after : List Plan) → Result HeadParts SetFault → Type 0
MakesParts rules head plans held ready after (Ok parts) =
    BodiesTurn (bodies_of ready.old ready.new (kept_rules ready.lasting rules head)) parts.changes.items
    × (rows_in parts.rows ≡ set_of (rows_given ready.new (passing_rules ready.lasting rules head)))
    × AllFit (head_sets ready.a ready.new head)
    × AreTurned ready.growing ready.lasting ready.new rules head (length rules) plans after
MakesParts rules head plans held ready after (Err TooManyRows) = SomeIsOver (set_of (ruled_at ready.a.form ready.new head) ∷ head_sets ready.a ready.new head)
MakesParts rules head plans held ready after (Err NoMemory) = Unit {0}

-- a head that is kept turned, and its bag, where it needs one, has what its rules give; TooManyRows comes exactly where the head has too many rows or a part of a body has
abbrev pub TurnsHead : (rules : List NumberedRule) (head : ℕ) (plans : List Plan) (held : List Change) → AreReady rules head plans held → (bag : Bag) (after : List Plan) → Result Change SetFault → Type 0
TurnsHead rules head plans held ready bag after (Ok change) =
    TurnsTo true (set_of (ruled_at ready.a.form ready.old head)) (set_of (ruled_at ready.a.form ready.new head)) (Ok change)
    × HasGiven ready.lasting ready.new rules head bag
    × AllFit (set_of (ruled_at ready.a.form ready.new head) ∷ head_sets ready.a ready.new head)
    × AreTurned ready.growing ready.lasting ready.new rules head (length rules) plans after
TurnsHead rules head plans held ready bag after (Err TooManyRows) = SomeIsOver (set_of (ruled_at ready.a.form ready.new head) ∷ head_sets ready.a ready.new head)
TurnsHead rules head plans held ready bag after (Err NoMemory) = Unit {0}

-- the rows of a head that isn't kept: the whole, or some among which each new one is
pub record IsHeadMade (a : Accepted) (old new : Sets) (head : ℕ) (whole : Bool) (set : List Row) : Type 0 where
  pub news : AreNew (set_of (ruled_at a.form old head)) (set_of (ruled_at a.form new head)) set
  pub all : IsTrue whole → set ≡ set_of (ruled_at a.form new head)
  pub fit : AllFit (set_of (ruled_at a.form new head) ∷ head_sets a new head)

-- the answer is such rows; TooManyRows comes exactly where the head has too many or a part of a body has
abbrev pub MakesHead : (rules : List NumberedRule) (head : ℕ) (plans : List Plan) (held : List Change) → AreReady rules head plans held → (whole : Bool) (bag : Bag) (after : List Plan) → Result Change SetFault → Type 0
MakesHead rules head plans held ready whole bag after (Ok change) =
    (change.kept ≡ false)
    × IsHeadMade ready.a ready.old ready.new head whole (rows_in change.rows)
    × HasGiven ready.lasting ready.new rules head bag
    × AreTurned ready.growing ready.lasting ready.new rules head (length rules) plans after
MakesHead rules head plans held ready whole bag after (Err TooManyRows) = SomeIsOver (set_of (ruled_at ready.a.form ready.new head) ∷ head_sets ready.a ready.new head)
MakesHead rules head plans held ready whole bag after (Err NoMemory) = Unit {0}
