-- What a program puts out over the entries of a log, one timestep for each.
use Rattle.std.specs.Prelude.{ℕ, List, length}
use Rattle.blz_value.specs.Record.{Row}
use Rattle.bloom_forms.specs.declared.program.Program.{Program}
use Rattle.bloom_forms.specs.Program.{port_columns}
use Rattle.bloom_forms.specs.Step.{Sets}
use Rattle.bloom_forms.specs.Runs.{output_rows, output_over, over_steps}
use Rattle.messages.specs.Messages.{Entry}
use Rattle.inbox.specs.Timesteps.{one_by_one}

-- an output's rows in timesteps, one timestep after the other, from these tables on
abbrev pub rows_from : Program → (tables : Sets) → List Sets → (output : ℕ) → List Row
rows_from program tables nows output = over_steps program (output_rows program output) tables nows

-- the set of an output's rows over one timestep for each entry, from empty tables
abbrev pub fold_rows : Program → List Entry → (output : ℕ) → List Row
fold_rows program entries output = output_over program output (one_by_one (length (port_columns program)) entries)
