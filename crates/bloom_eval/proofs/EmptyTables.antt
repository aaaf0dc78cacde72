-- Empty sets for the tables of a program.
use Rattle.std.proofs.Common.{Option, None, Some, List, [], ◌∷◌, map, arith}
use Rattle.bloom_forms.specs.declared.program.Program.{Program}
use Rattle.bloom_forms.specs.Program.{table_columns}
use Rattle.bloom_forms.specs.Query.{Name}
use Rattle.bloom_forms.specs.Widths.{AreSetsOf}
use Rattle.bloom_eval.specs.Step.{AreTables, nothing_kept}

-- empty sets have every width
pub empties_wide : (columns : List (List Name)) → AreSetsOf columns (map (λ names. []) columns)
empties_wide [] = tt
empties_wide (names ∷ columns) = (λ i row lt. absurd (omega (arith, lt)), empties_wide columns)

-- where nothing is kept there is one set for each table
pub nothing_is_tables : (program : Option Program) → AreTables program (nothing_kept program)
nothing_is_tables None = tt
nothing_is_tables (Some program) = empties_wide (table_columns program)
