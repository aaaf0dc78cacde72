-- Seats in which one seat is another.
use Rattle.std.specs.Prelude.{ℕ, ◌==◌, ◌&&◌, if◌then◌else◌}
use Rattle.inbox.specs.Standing.{Seat, Seats}

-- the seat of one instance becomes this one, and all else stays
abbrev pub with_seat : (component replica : ℕ) → Seat → Seats → Seats
with_seat component replica seat net = record {
  seats = λ c r. if c == component && r == replica then seat else net.seats c r;
  logs = net.logs;
}
