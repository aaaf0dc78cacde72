-- What arrives in a step, as a set for each port.
use Rattle.std.specs.Prelude.{[], ◌∷◌}
use Rattle.bloom_forms.specs.Step.{Sets}
use Rattle.bloom_eval.specs.Arrivals.{timestep_of}
use Rattle.bloom_index.specs.declared.arrived.Arrived.{Arrived}
use Rattle.bloom_index.specs.declared.arrived.Arrived.TheVariants as arrived

-- these sets, or the timestep of the one record
abbrev pub arrived_in : Arrived → Sets
arrived_in (arrived.Sets sets) = sets.now
arrived_in (arrived.One ports port row) = timestep_of ports ((port, row.now) ∷ [])
