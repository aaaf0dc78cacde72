-- What the evaluation of an expression answers.
use Rattle.std.specs.Prelude.{◌≡◌, ◌<◌, ◌≤◌, Result, Ok, Err, List, length}
use Rattle.blz_value.specs.Record.{Row}
use Rattle.blz_set.specs.RecordSet.{row_limit}
use Rattle.blz_set.specs.declared.fault.SetFault.{SetFault}
use Rattle.blz_set.specs.declared.fault.SetFault.TheVariants.{TooManyRows, NoMemory}
use Rattle.bloom_forms.specs.Step.{Sets}
use Rattle.bloom_eval.specs.declared.rows.Rows.{Rows}
use Rattle.bloom_eval.specs.StepAnswers.{AllFit, SomeIsOver}
use Rattle.bloom_eval.specs.Code.Held.{rows_in}

-- the answer is these rows; TooManyRows comes exactly where they are too many
abbrev pub GivesRows : List Row → Result Rows SetFault → Type 0
GivesRows rows (Ok held) = (rows_in held ≡ rows) × (length rows ≤ row_limit)
GivesRows rows (Err TooManyRows) = row_limit < length rows
GivesRows rows (Err NoMemory) = Unit {0}

-- the answer is these rows; TooManyRows comes exactly where one of the sets has too many rows
abbrev pub Evaluates : (rows : List Row) (sets : Sets) → Result Rows SetFault → Type 0
Evaluates rows sets (Ok held) = (rows_in held ≡ rows) × AllFit sets
Evaluates rows sets (Err TooManyRows) = SomeIsOver sets
Evaluates rows sets (Err NoMemory) = Unit {0}
