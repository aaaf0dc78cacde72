-- The shard law: a module over all records, and its copies over the records of each bucket of a column.
use Rattle.std.specs.Prelude.{ℕ, ℤ, ◌≡◌, ◌↔◌, IsTrue, if◌then◌else◌, Some, List, [], ◌∷◌, map}
use Rattle.blz_value.specs.declared.test.Op.TheVariants.{Lt, Ge}
use Rattle.blz_value.specs.declared.value.Value.TheVariants.{Int}
use Rattle.blz_value.specs.Members.{Has}
use Rattle.blz_value.specs.Record.{Row}
use Rattle.blz_value.specs.Bits.{bit_of, meets}
use Rattle.blz_value.specs.Names.{place_of}
use Rattle.bloom_forms.specs.declared.expr.Term.TheVariants.{Column, Literal}
use Rattle.bloom_forms.specs.declared.module.Collection.{Collection}
use Rattle.bloom_forms.specs.declared.program.Program.TheVariants.{Module}
use Rattle.bloom_forms.specs.Form.{RuleForm, Accepted}
use Rattle.bloom_forms.specs.Kinds.{has_kind, is_input}
use Rattle.bloom_forms.specs.Program.{port_columns}
use Rattle.bloom_forms.specs.ProgramStep.{answer_of}
use Rattle.bloom_forms.specs.Query.{Name, Formula, Query}
use Rattle.bloom_forms.specs.Query.Formula.{compare, both}
use Rattle.bloom_forms.specs.Query.Query.{base, select, project, join, notin, group, at_least}
use Rattle.bloom_forms.specs.Step.{Sets, set_at}
use Rattle.bloom_forms.specs.Steps.{AreArrivals}
use Rattle.bloom_forms.specs.Annotation.{gate_of_output}

-- ---- buckets

-- the column's value is at least a bound; it is below one
abbrev pub from_bound : Name → ℤ → Formula
from_bound column bound = compare (Column column) Ge (Literal (Int bound))

abbrev pub below_bound : Name → ℤ → Formula
below_bound column bound = compare (Column column) Lt (Literal (Int bound))

-- the tests of the buckets from a bound on
abbrev pub buckets_from : Name → ℤ → List ℤ → List Formula
buckets_from column bound [] = from_bound column bound ∷ []
buckets_from column bound (next ∷ bounds) = both (from_bound column bound) (below_bound column next) ∷ buckets_from column next bounds

-- the tests of all buckets of one bound and those after it
abbrev pub buckets : Name → (first : ℤ) → List ℤ → List Formula
buckets column first bounds = below_bound column first ∷ buckets_from column first bounds

-- ---- copies

-- an expression in which each port stands for its rows that pass a test
abbrev pub over_bucket : List Collection → Formula → Query → Query
over_bucket cs test (base name) = if has_kind is_input cs name then select (base name) test else base name
over_bucket cs test (select q f) = select (over_bucket cs test q) f
over_bucket cs test (project q items) = project (over_bucket cs test q) items
over_bucket cs test (join a b pairs) = join (over_bucket cs test a) (over_bucket cs test b) pairs
over_bucket cs test (notin a b pairs) = notin (over_bucket cs test a) (over_bucket cs test b) pairs
over_bucket cs test (group q keys agg name) = group (over_bucket cs test q) keys agg name
over_bucket cs test (at_least q keys bound) = at_least (over_bucket cs test q) keys bound

-- a rule so
abbrev pub copied_rule : List Collection → Formula → RuleForm → RuleForm
copied_rule cs test rule = (rule.0, over_bucket cs test rule.1)

-- a module with all its rules so
abbrev pub copied : Accepted → Formula → Accepted
copied a test = record { form = record { name = a.form.name; collections = a.form.collections; rules = map (copied_rule a.form.collections test) a.form.rules }; heads = a.heads }

-- where each port has a column, and its attribute lies in the gate of an output, the one-step answer of the output is that of the copies together
abbrev pub AnswersByBucket : (names : List Name) → Accepted → Type 0
AnswersByBucket names a = (column : Name) (attribute : ℕ) (first : ℤ) (bounds : List ℤ) (output : ℕ) (now : Sets)
    → place_of names column ≡ Some attribute → ((columns : List Name) → Has columns (port_columns (Module a)) → Has column columns)
    → IsTrue (meets (bit_of attribute) (gate_of_output names (Module a) output)) → AreArrivals (Module a) (now ∷ [])
    → (row : Row)
    → Has row (set_at (answer_of (Module a) now) output) ↔ ((test : Formula) × Has test (buckets column first bounds) × Has row (set_at (answer_of (Module (copied a test)) now) output))
