-- The literals of an expression are those that the program can hold.
use Rattle.std.specs.Prelude.{List, FitsSigned}
use Rattle.std.specs.Int.{w64}
use Rattle.std.specs.List.{All}
use Rattle.std.specs.Str.{IsUtf8}
use Rattle.blz_value.specs.declared.value.Value.{Value}
use Rattle.blz_value.specs.declared.value.Value.TheVariants.{Int, Text}
use Rattle.bloom_forms.specs.declared.expr.Term.{Term}
use Rattle.bloom_forms.specs.declared.expr.Term.TheVariants.{Column, Literal}
use Rattle.bloom_forms.specs.Form.{RuleForm}
use Rattle.bloom_forms.specs.Query.{Formula, Query}
use Rattle.bloom_forms.specs.Query.Formula.{compare, both, either, not_so}
use Rattle.bloom_forms.specs.Query.Query.{base, select, project, join, notin, group, at_least}

-- an i64, or a text in UTF-8
abbrev pub IsLiteral : Value → Type 0
IsLiteral (Int n) = FitsSigned w64 n
IsLiteral (Text bytes) = IsUtf8 bytes

-- a literal is one of those
abbrev pub TermLiterals : Term → Type 0
TermLiterals (Column name) = Unit {0}
TermLiterals (Literal value) = IsLiteral value

-- each literal of a predicate is
abbrev pub FormulaLiterals : Formula → Type 0
FormulaLiterals (compare l o r) = TermLiterals l × TermLiterals r
FormulaLiterals (both a b) = FormulaLiterals a × FormulaLiterals b
FormulaLiterals (either a b) = FormulaLiterals a × FormulaLiterals b
FormulaLiterals (not_so a) = FormulaLiterals a

-- each literal of an expression is an i64 or a text in UTF-8, and each bound an i64
abbrev pub HasLiterals : Query → Type 0
HasLiterals (base name) = Unit {0}
HasLiterals (select q f) = HasLiterals q × FormulaLiterals f
HasLiterals (project q items) = HasLiterals q
HasLiterals (join a b pairs) = HasLiterals a × HasLiterals b
HasLiterals (notin a b pairs) = HasLiterals a × HasLiterals b
HasLiterals (group q keys agg name) = HasLiterals q
HasLiterals (at_least q keys bound) = HasLiterals q × FitsSigned w64 bound

-- each literal and bound of the rules is
abbrev pub RulesHaveLiterals : List RuleForm → Type 0
RulesHaveLiterals rules = All (λ r. HasLiterals r.1) rules
