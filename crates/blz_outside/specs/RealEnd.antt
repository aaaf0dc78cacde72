-- A real end, as callers see it.
use Rattle.std.specs.Prelude.{ℕ}

-- how many faults there were
pub record RealEndView : Type 0 where
  pub faults : ℕ
