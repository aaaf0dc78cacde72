-- The rows of an expression by numbers, over what the collections hold.
use Rattle.std.specs.Prelude.{List, [], ◌∷◌, ◌++◌, length}
use Rattle.std.specs.List.{All}
use Rattle.blz_value.specs.Record.{Row}
use Rattle.blz_value.specs.Sets.{set_of}
use Rattle.blz_value.specs.Test.{test_holds, TestFits}
use Rattle.blz_value.specs.Operators.{select_rows, project_rows, join_rows, notin_rows}
use Rattle.blz_value.specs.Groups.{group_rows, at_least_rows}
use Rattle.bloom_forms.specs.declared.numbered.NumberedExpr.{NumberedExpr, Base, Select', Project', Join', NotIn', Group', AtLeast'}
use Rattle.bloom_forms.specs.Step.{Sets, set_at}

-- the rows of an expression, where the collections hold these sets
abbrev pub numbered_rows : Sets → NumberedExpr → List Row
numbered_rows sets (Base number) = set_at sets number
numbered_rows sets (Select' p e test) = set_of (select_rows (test_holds test) (numbered_rows sets e))
numbered_rows sets (Project' p e columns) = set_of (project_rows columns (numbered_rows sets e))
numbered_rows sets (Join' p left q right pairs) = set_of (join_rows pairs (numbered_rows sets left) (numbered_rows sets right))
numbered_rows sets (NotIn' p left q right pairs) = set_of (notin_rows pairs (numbered_rows sets left) (numbered_rows sets right))
numbered_rows sets (Group' p e keys agg) = set_of (group_rows keys agg (numbered_rows sets e))
numbered_rows sets (AtLeast' p e keys bound) = set_of (at_least_rows keys bound (numbered_rows sets e))

-- the rows of an expression and of each of its parts
abbrev pub numbered_sets : Sets → NumberedExpr → Sets
numbered_sets sets (Base number) = numbered_rows sets (Base number) ∷ []
numbered_sets sets (Select' p e test) = numbered_rows sets (Select' p e test) ∷ numbered_sets sets e
numbered_sets sets (Project' p e columns) = numbered_rows sets (Project' p e columns) ∷ numbered_sets sets e
numbered_sets sets (Join' p left q right pairs) = numbered_rows sets (Join' p left q right pairs) ∷ (numbered_sets sets left ++ numbered_sets sets right)
numbered_sets sets (NotIn' p left q right pairs) = numbered_rows sets (NotIn' p left q right pairs) ∷ (numbered_sets sets left ++ numbered_sets sets right)
numbered_sets sets (Group' p e keys agg) = numbered_rows sets (Group' p e keys agg) ∷ numbered_sets sets e
numbered_sets sets (AtLeast' p e keys bound) = numbered_rows sets (AtLeast' p e keys bound) ∷ numbered_sets sets e

-- each test names columns that the rows have which it is asked of
abbrev pub TestsFit : Sets → NumberedExpr → Type 0
TestsFit sets (Base number) = Unit {0}
TestsFit sets (Select' p e test) = TestsFit sets e × All (λ row. TestFits test (length row)) (numbered_rows sets e)
TestsFit sets (Project' p e columns) = TestsFit sets e
TestsFit sets (Join' p left q right pairs) = TestsFit sets left × TestsFit sets right
TestsFit sets (NotIn' p left q right pairs) = TestsFit sets left × TestsFit sets right
TestsFit sets (Group' p e keys agg) = TestsFit sets e
TestsFit sets (AtLeast' p e keys bound) = TestsFit sets e
