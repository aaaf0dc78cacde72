-- A sink in memory, as callers see it.
use Rattle.std.specs.Prelude.{ℕ, ◌-◌, List, length}

-- the bytes kept, how many there can be at most, and how many faults there were
pub record MemSinkView : Type 0 where
  pub bytes : List ℕ
  pub most : ℕ
  pub faults : ℕ

-- how many bytes more fit
abbrev pub room_of : MemSinkView → ℕ
room_of sink = sink.most - length sink.bytes
