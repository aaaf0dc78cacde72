-- What a write does to a sink.
use Rattle.std.specs.Prelude.{◌≡◌, ℕ, ◌+◌, List, ◌++◌, Option, option_map}

-- the bytes written, where they are told, grew by these
abbrev pub Grows : Option (List ℕ) → Option (List ℕ) → List ℕ → Type 0
Grows before now bytes = now ≡ option_map (λ written. written ++ bytes) before

-- the room, where it is told, fell by this number
abbrev pub Falls : Option ℕ → Option ℕ → ℕ → Type 0
Falls before now count = before ≡ option_map (λ room. room + count) now
