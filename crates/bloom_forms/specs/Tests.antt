-- Predicates as tests by the numbers of columns.
use Rattle.std.specs.Prelude.{◌≡◌, List, length}
use Rattle.blz_value.specs.declared.test.Operand.{Operand}
use Rattle.blz_value.specs.declared.test.Test.{Test}
use Rattle.blz_value.specs.Members.{Has}
use Rattle.blz_value.specs.Record.{Row}
use Rattle.blz_value.specs.Test.{operand_value, OperandFits, test_holds, TestFits}
use Rattle.bloom_forms.specs.declared.expr.Term.{Term}
use Rattle.bloom_forms.specs.declared.expr.Term.TheVariants.{Column, Literal}
use Rattle.bloom_forms.specs.Query.{Name, Formula}
use Rattle.bloom_forms.specs.Query.Formula.{compare, both, either, not_so}
use Rattle.bloom_forms.specs.Rows.{term_value, formula_holds}

-- a column that a term names is there
abbrev pub TermFits : List Name → Term → Type 0
TermFits columns (Column name) = Has name columns
TermFits columns (Literal value) = Unit {0}

-- each column that a predicate names is there
abbrev pub FormulaFits : List Name → Formula → Type 0
FormulaFits columns (compare left op right) = TermFits columns left × TermFits columns right
FormulaFits columns (both a b) = FormulaFits columns a × FormulaFits columns b
FormulaFits columns (either a b) = FormulaFits columns a × FormulaFits columns b
FormulaFits columns (not_so a) = FormulaFits columns a

-- the operand stands for what the term stands for, and fits these columns
pub record IsOperandOf (columns : List Name) (term : Term) (operand : Operand) : Type 0 where
  pub same : (row : Row) → operand_value operand row ≡ term_value columns term row
  pub fits : OperandFits operand (length columns)

-- the test holds where the predicate holds, and fits these columns
pub record IsTestOf (columns : List Name) (formula : Formula) (test : Test) : Type 0 where
  pub same : (row : Row) → test_holds test row ≡ formula_holds columns formula row
  pub fits : TestFits test (length columns)
