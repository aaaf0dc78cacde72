-- Modules that keep nothing and whose rules choose among the rows of ports, and what these put out of one record.
use Rattle.std.specs.Prelude.{ℕ, ◌==◌, ◌&&◌, Bool, true, false, cond, IsTrue, List, [], ◌∷◌, length}
use Rattle.std.specs.List.{list_all, list_any}
use Rattle.std.specs.Option.{option_map_or}
use Rattle.blz_value.specs.Record.{Row}
use Rattle.blz_value.specs.Test.{test_holds, TestFits}
use Rattle.bloom_forms.specs.declared.module.Collection.{Collection}
use Rattle.bloom_forms.specs.declared.module.Kind.{Kind}
use Rattle.bloom_forms.specs.declared.module.Kind.TheVariants.{Input, Output, Table, Scratch}
use Rattle.bloom_forms.specs.declared.numbered.NumberedExpr.{NumberedExpr}
use Rattle.bloom_forms.specs.declared.numbered.NumberedExpr as expr
use Rattle.bloom_forms.specs.declared.numbered.NumberedRule.{NumberedRule}
use Rattle.bloom_forms.specs.Form.{Form}
use Rattle.bloom_forms.specs.Kinds.{is_input, kind_at}
use Rattle.bloom_forms.specs.Lookup.{collection_number}
use Rattle.bloom_forms.specs.Query.{Query}
use Rattle.bloom_forms.specs.Query.Query.{base, select, project, join, notin, group, at_least}

-- ---- which modules

-- the collection with a number is a port
abbrev pub is_port : List Collection → ℕ → Bool
is_port cs number = option_map_or is_input (kind_at cs number) false

-- an expression has rows of a port that tests choose
abbrev pub is_choice : List Collection → Query → Bool
is_choice cs (base name) = is_port cs (collection_number cs name)
is_choice cs (select q f) = is_choice cs q
is_choice cs (project q items) = false
is_choice cs (join a b pairs) = false
is_choice cs (notin a b pairs) = false
is_choice cs (group q keys agg name) = false
is_choice cs (at_least q keys bound) = false

-- the same by numbers
abbrev pub is_choice_of : List Collection → NumberedExpr → Bool
is_choice_of cs (expr.Base number) = is_port cs number
is_choice_of cs (expr.Select' p e test) = is_choice_of cs e
is_choice_of cs (expr.Project' p e columns) = false
is_choice_of cs (expr.Join' p a q b pairs) = false
is_choice_of cs (expr.NotIn' p a q b pairs) = false
is_choice_of cs (expr.Group' p e keys agg) = false
is_choice_of cs (expr.AtLeast' p e keys bound) = false

-- a collection is a port or an output, and so holds rows of the step alone
abbrev pub is_passing : Kind → Bool
is_passing Input = true
is_passing Output = true
is_passing Table = false
is_passing Scratch = false

-- a module keeps nothing, and each rule gives an output rows of a port that tests choose
abbrev pub only_chooses : Form → Bool
only_chooses form = list_all (λ c. is_passing c.kind) form.collections && list_all (λ rule. is_choice form.collections rule.1) form.rules

-- ---- one record

-- an expression has a record that arrives alone, at the port that is the collection with this number
abbrev pub chooses : NumberedExpr → (port : ℕ) → Row → Bool
chooses (expr.Base number) port row = number == port
chooses (expr.Select' p e test) port row = chooses e port row && test_holds test row
chooses (expr.Project' p e columns) port row = false
chooses (expr.Join' p a q b pairs) port row = false
chooses (expr.NotIn' p a q b pairs) port row = false
chooses (expr.Group' p e keys agg) port row = false
chooses (expr.AtLeast' p e keys bound) port row = false

-- each test names columns that the record has, where it is asked of it
abbrev pub Fits : NumberedExpr → (port : ℕ) → Row → Type 0
Fits (expr.Base number) port row = Unit {0}
Fits (expr.Select' p e test) port row = Fits e port row × (IsTrue (chooses e port row) → TestFits test (length row))
Fits (expr.Project' p e columns) port row = Unit {0}
Fits (expr.Join' p a q b pairs) port row = Unit {0}
Fits (expr.NotIn' p a q b pairs) port row = Unit {0}
Fits (expr.Group' p e keys agg) port row = Unit {0}
Fits (expr.AtLeast' p e keys bound) port row = Unit {0}

-- a rule of a head chooses the record
abbrev pub chooses_for : (head port : ℕ) → Row → NumberedRule → Bool
chooses_for head port row rule = rule.head == head && chooses rule.body port row

-- an output has the record where one of its rules chooses it, and nothing else
abbrev pub chosen_rows : List NumberedRule → (port : ℕ) → Row → (head : ℕ) → List Row
chosen_rows rules port row head = cond (list_any (chooses_for head port row) rules) (row ∷ []) []
