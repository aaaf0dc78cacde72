-- What arrives in a step, by the numbers of the ports.
use Rattle.std.specs.Prelude.{ℕ, ◌==◌, List, map, filter}
use Rattle.std.specs.List.{range_with_len}
use Rattle.blz_value.specs.Record.{Row}
use Rattle.blz_value.specs.Sets.{set_of}
use Rattle.bloom_forms.specs.Step.{Sets}

-- the timestep with these records, each with the number of its port: one set for each port, with the records at it
abbrev pub timestep_of : (ports : ℕ) → List (ℕ × Row) → Sets
timestep_of ports entries = map (λ port. set_of (map (λ entry. entry.1) (filter (λ entry. entry.0 == port) entries))) (range_with_len 0 ports)
