-- What a step puts out, less rows that were put out before.
use Rattle.std.specs.Prelude.{ℕ, ◌≡◌, length}
use Rattle.blz_value.specs.Members.{Has}
use Rattle.blz_value.specs.Record.{Row}
use Rattle.bloom_forms.specs.Step.{Sets, set_at}

-- some sets have only rows of all the sets, and each of these but for what stands already
pub record AreChanges (all standing some : Sets) : Type 0 where
  pub many : length some ≡ length all
  pub only : (output : ℕ) (row : Row) → Has row (set_at some output) → Has row (set_at all output)
  pub new : (output : ℕ) (row : Row) → Has row (set_at all output) → ¬ Has row (set_at standing output) → Has row (set_at some output)
