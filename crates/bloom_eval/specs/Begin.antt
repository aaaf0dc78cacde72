-- The beginning of a step, which takes the sets of tables out of what is kept.
use Rattle.std.specs.Prelude.{ℕ, ◌≡◌, ◌⊎◌, ◌+◌, cond, [], length, slice_set}
use Rattle.bloom_forms.specs.declared.module.Kind.{Kind}
use Rattle.bloom_forms.specs.declared.module.Kind.TheVariants.{Input, Output, Table, Scratch}
use Rattle.bloom_forms.specs.Kinds.{same_kind}
use Rattle.bloom_forms.specs.Step.{Sets, set_at}

-- the tables after a collection of a kind took what it begins with
abbrev pub left_by : Kind → Sets → ℕ → Sets
left_by Table sets table = slice_set sets table []
left_by Input sets table = sets
left_by Output sets table = sets
left_by Scratch sets table = sets

-- the place of the next collection of a kind, after a collection of another kind or this one at a place
abbrev pub place_after : (kind of : Kind) → ℕ → ℕ
place_after kind of place = cond (same_kind kind of) (place + 1) place

-- each set is what it was or empty
pub record AreLeft (old new : Sets) : Type 0 where
  pub many : length new ≡ length old
  pub each : (k : ℕ) → (set_at new k ≡ set_at old k) ⊎ (set_at new k ≡ [])
