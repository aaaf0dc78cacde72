-- One step of a shell, whose program may be none.
use Rattle.std.specs.Prelude.{Option, None, Some, [], ◌++◌}
use Rattle.bloom_forms.specs.declared.program.Program.{Program}
use Rattle.bloom_forms.specs.declared.program.Program.TheVariants.{Module, Split, Latest, Number}
use Rattle.bloom_forms.specs.Step.{Sets}
use Rattle.bloom_forms.specs.Program.{port_columns, table_columns}
use Rattle.bloom_forms.specs.ProgramStep.{tables_after_step, outputs_of_step, standing_outputs, empty_tables}
use Rattle.bloom_forms.specs.Widths.{AreSetsOf}
use Rattle.bloom_eval.specs.StepAnswers.{counted_sets}

-- what arrives has one set for each port of the program, with rows of its width
abbrev pub Arrive : Option Program → (now : Sets) → Type 0
Arrive None now = Unit {0}
Arrive (Some program) now = AreSetsOf (port_columns program) now

-- one set for each table of the program, with rows of its width
abbrev pub AreTables : Option Program → (kept : Sets) → Type 0
AreTables None kept = Unit {0}
AreTables (Some program) kept = AreSetsOf (table_columns program) kept

-- one empty set for each table
abbrev pub nothing_kept : Option Program → Sets
nothing_kept None = []
nothing_kept (Some program) = empty_tables program

-- what is kept after a step
abbrev pub tables_next : Option Program → (kept now : Sets) → Sets
tables_next None kept now = kept
tables_next (Some program) kept now = tables_after_step program kept now

-- what a step puts out
abbrev pub outs_next : Option Program → (kept now : Sets) → Sets
outs_next None kept now = []
outs_next (Some program) kept now = outputs_of_step program kept now

-- what a step puts out with nothing arriving, which is what the tables already give
abbrev pub outs_still : Option Program → (kept : Sets) → Sets
outs_still None kept = []
outs_still (Some program) kept = standing_outputs program kept

-- the sets that count in a step: those of a module's step, and what a stock body keeps and puts out
abbrev pub counted : Program → (kept now : Sets) → Sets
counted (Module a) kept now = counted_sets a kept now
counted (Split columns split) kept now = tables_after_step (Split columns split) kept now ++ outputs_of_step (Split columns split) kept now
counted (Latest columns keys) kept now = tables_after_step (Latest columns keys) kept now ++ outputs_of_step (Latest columns keys) kept now
counted (Number columns) kept now = tables_after_step (Number columns) kept now ++ outputs_of_step (Number columns) kept now

-- the same of a shell
abbrev pub counted_next : Option Program → (kept now : Sets) → Sets
counted_next None kept now = []
counted_next (Some program) kept now = counted program kept now
