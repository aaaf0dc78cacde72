-- How many parts a valid topology has at most; no law asks for these.
use Rattle.std.specs.Prelude.{ℕ, ◌<◌, ◌≤◌, length}
use Rattle.topo_forms.specs.View.{View, stream_at, ends_of, component_at}

-- the limits that aren't among what holds of each valid topology: dependencies, columns, ends, ports and outputs
pub record IsBounded (v : View) : Type 0 where
  pub fds : length v.fds ≤ 64
  pub columns : (s : ℕ) → s < length v.streams → length (stream_at v s).columns ≤ 8
  pub ends : (s : ℕ) → s < length v.streams → length (ends_of v s) ≤ 256
  pub ports : (c : ℕ) → c < length v.components → length (component_at v c).ports ≤ 8
  pub outputs : (c : ℕ) → c < length v.components → length (component_at v c).outputs ≤ 8
