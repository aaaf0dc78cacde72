-- A draw is a step of a state, and gives the upper bits of the next one.
use Rattle.std.specs.Prelude.{ℕ, ◌+◌, ◌*◌, ◌/◌, ◌%◌, ◌^◌}

-- by this a state is multiplied
abbrev pub draw_factor : ℕ
draw_factor = 6364136223846793005

-- and this is added
abbrev pub draw_summand : ℕ
draw_summand = 1442695040888963407

-- the next state
abbrev pub next_state : (state : ℕ) → ℕ
next_state state = (state * draw_factor + draw_summand) % 2 ^ 64

-- the number that a state gives
abbrev pub drawn_number : (state : ℕ) → ℕ
drawn_number state = state / 2 ^ 33
