-- The law of shards: the copies of a module together answer as the module does.
use Rattle.std.specs.Prelude.{ℕ, ℤ, ◌≡◌, ◌<◌, ◌↔◌, false, List, [], ◌∷◌, length}
use Rattle.blz_value.specs.Members.{Has}
use Rattle.blz_value.specs.Record.{Row}
use Rattle.bloom_forms.specs.declared.program.Program.TheVariants.{Module}
use Rattle.bloom_forms.specs.Checks.{IsChecked}
use Rattle.bloom_forms.specs.Form.{Accepted}
use Rattle.bloom_forms.specs.Program.{output_columns}
use Rattle.bloom_forms.specs.ProgramStep.{answer_of}
use Rattle.bloom_forms.specs.Query.{Name}
use Rattle.bloom_forms.specs.Step.{Sets, set_at}
use Rattle.bloom_forms.specs.Steps.{AreArrivals}
use Rattle.shard_route.specs.Copies.{copies_of, lacks_column}
use Rattle.shard_route.specs.Sharding.{lacks_in_gate}

-- a copy puts out the row at the output, where this arrives
pub record SomeCopyHas (copies : List Accepted) (output : ℕ) (now : Sets) (row : Row) : Type 0 where
  pub copy : Accepted
  pub stands : Has copy copies
  pub row_is : Has row (set_at (answer_of (Module copy) now) output)

-- the one-step answer of each output is that of the copies together
abbrev pub AnswersTogether : Accepted → (copies : List Accepted) → Type 0
AnswersTogether a copies = (now : Sets) (output : ℕ) (row : Row) → AreArrivals (Module a) (now ∷ []) → output < length (output_columns (Module a))
    → Has row (set_at (answer_of (Module a) now) output) ↔ SomeCopyHas copies output now row

-- so it is of each checked module, any column that every port has and whose attribute lies in the gate of every output, and any bounds
abbrev pub ShardLaw : Type 0
ShardLaw = (names : List Name) (a : Accepted) (column : Name) (first : ℤ) (bounds : List ℤ) → IsChecked a.form a.heads
    → lacks_column column a.form ≡ false → lacks_in_gate names column (Module a) ≡ false
    → AnswersTogether a (copies_of a column (first ∷ bounds))
