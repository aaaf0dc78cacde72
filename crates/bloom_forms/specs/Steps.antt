-- Several steps, one after the other.
use Rattle.std.specs.Prelude.{List}
use Rattle.std.specs.List.{All, fold}
use Rattle.bloom_forms.specs.declared.program.Program.{Program}
use Rattle.bloom_forms.specs.Program.{port_columns}
use Rattle.bloom_forms.specs.ProgramStep.{tables_after_step, empty_tables}
use Rattle.bloom_forms.specs.Step.{Sets}
use Rattle.bloom_forms.specs.Widths.{AreSetsOf}

-- the tables after a step over each of some arrivals, from empty tables
abbrev pub tables_after_steps : Program → List Sets → Sets
tables_after_steps program nows = fold (tables_after_step program) (empty_tables program) nows

-- each of some arrivals has one set for each port, with rows of its width
abbrev pub AreArrivals : Program → List Sets → Type 0
AreArrivals program nows = All (AreSetsOf (port_columns program)) nows
