-- One step of a program.
use Rattle.std.specs.Prelude.{[], ◌∷◌, map, length}
use Rattle.bloom_forms.specs.declared.program.Program.{Program}
use Rattle.bloom_forms.specs.declared.program.Program.TheVariants.{Module, Split, Latest, Number}
use Rattle.bloom_forms.specs.Step.{Sets, set_at, tables_after, outputs_of}
use Rattle.bloom_forms.specs.StockSteps.{keys_in_order, split_out, latest_kept, latest_out, number_kept, number_out}
use Rattle.bloom_forms.specs.Program.{port_columns, table_columns}

-- the tables after a step over what is kept and what arrives
abbrev pub tables_after_step : Program → (kept now : Sets) → Sets
tables_after_step (Module a) kept now = tables_after a kept now
tables_after_step (Split columns split) kept now = []
tables_after_step (Latest columns keys) kept now = latest_kept (keys_in_order (length columns) keys) (set_at kept 0) (set_at now 0) ∷ []
tables_after_step (Number columns) kept now = number_kept (set_at kept 0) (set_at now 0) ∷ []

-- the outputs of a step over what is kept and what arrives
abbrev pub outputs_of_step : Program → (kept now : Sets) → Sets
outputs_of_step (Module a) kept now = outputs_of a kept now
outputs_of_step (Split columns split) kept now = split_out split (set_at now 0) ∷ []
outputs_of_step (Latest columns keys) kept now =
    let in_order = keys_in_order (length columns) keys in
    latest_out in_order (latest_kept in_order (set_at kept 0) (set_at now 0)) (set_at now 1) ∷ []
outputs_of_step (Number columns) kept now = number_out (set_at kept 0) (set_at now 0) ∷ []

-- a step: the new tables and the outputs
abbrev pub program_step : Program → (kept now : Sets) → Sets × Sets
program_step program kept now = (tables_after_step program kept now, outputs_of_step program kept now)

-- one empty set for each table
abbrev pub empty_tables : Program → Sets
empty_tables program = map (λ columns. []) (table_columns program)

-- nothing arrives: one empty set for each port
abbrev pub no_arrivals : Program → Sets
no_arrivals program = map (λ columns. []) (port_columns program)

-- what the tables give by themselves: the outputs of a step with nothing arriving
abbrev pub standing_outputs : Program → (kept : Sets) → Sets
standing_outputs program kept = outputs_of_step program kept (no_arrivals program)

-- the one-step answer: the outputs of a step from empty tables, with all of the arrivals
abbrev pub answer_of : Program → Sets → Sets
answer_of program now = (program_step program (empty_tables program) now).1
