-- An instance emits each of its rows once, timestep by timestep, and seals a partition once it is whole.
use Rattle.std.specs.Prelude.{ℕ, Option, Some, None, List, [], map, slice_index_or, slice_get}
use Rattle.std.specs.List.{fold, enumerate_from}
use Rattle.std.specs.Option.{option_and_then}
use Rattle.blz_value.specs.Record.{Row}
use Rattle.bloom_forms.specs.declared.program.Program.{Program}
use Rattle.bloom_forms.specs.ProgramStep.{tables_after_step, outputs_of_step, empty_tables}
use Rattle.bloom_forms.specs.Step.{Sets, set_at}
use Rattle.blz_value.specs.Message.{Message}
pub use Rattle.messages.specs.Emitted.{has_seal, with_row, with_rows, count_in, with_seal, with_seals}
use Rattle.inbox.specs.Instances.{Instance}
use Rattle.inbox.specs.Timesteps.{SetOff}

-- the tables of an instance, and the emitted list of each of its outputs
pub record Kept : Type 0 where
  pub tables : Sets
  pub lists : List (List Message)

-- the list of an output
abbrev pub list_of : Kept → (output : ℕ) → List Message
list_of kept output = slice_index_or kept.lists output []

-- each element changed by its number
abbrev pub each_by_place : {X : Type 0} → (ℕ → X → X) → List X → List X
each_by_place change xs = map (λ place. change place.0 place.1) (enumerate_from 0 xs)

-- ---- the course of emission

-- after one timestep
abbrev pub emit_step : Program → Kept → Sets → Kept
emit_step program kept now = record {
  tables = tables_after_step program kept.tables now;
  lists = each_by_place (λ output list. with_rows list (set_at (outputs_of_step program kept.tables now) output)) kept.lists;
}

-- the places of the key that an output's stream carries
abbrev pub output_key : Instance → (output : ℕ) → Option (List ℕ)
output_key i output = option_and_then (λ key. key) (slice_get i.outputs output)

-- the lists after the seals of partitions that became whole
abbrev pub seal_all : Instance → List Row → List (List Message) → List (List Message)
seal_all i keys lists = each_by_place (λ output list. with_seals (output_key i output) list keys) lists

-- after the timesteps of one batch, and its seals
abbrev pub emit_of : Option Program → Instance → Kept → SetOff → Kept
emit_of None i kept s = kept
emit_of (Some program) i kept s =
    let stepped = fold (emit_step program) kept s.steps in
    record { tables = stepped.tables; lists = seal_all i s.whole stepped.lists }

-- the same by what the instance runs; without a body nothing is emitted
abbrev pub emit : Instance → Kept → SetOff → Kept
emit i kept s = emit_of i.program i kept s

-- the empty tables with which a life begins
abbrev pub first_tables : Option Program → Sets
first_tables None = []
first_tables (Some program) = empty_tables program

-- a life begins: with empty tables, and the lists as they are
abbrev pub begin_life : Instance → Kept → Kept
begin_life i kept = record { tables = first_tables i.program; lists = kept.lists }

-- nothing is emitted yet
abbrev pub nothing_emitted : Instance → Kept
nothing_emitted i = record { tables = first_tables i.program; lists = map (λ output. []) i.outputs }
